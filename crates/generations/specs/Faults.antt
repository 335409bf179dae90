-- How faults of the disk are reported.
use Rattle.std.specs.Prelude.{◌≡◌, ◌⊎◌, ◌<◌, ◌↔◌, ℕ, Result, Err, IfErr, MatchResult}
use Rattle.sector_disk.specs.Disk.{HasFailed}
use Rattle.generations.specs.declared.fault.StoreFault.{StoreFault}
use Rattle.generations.specs.declared.fault.StoreFault.TheVariants.{NotFormatted, TooSmall, Damaged, Device, Memory}
use Rattle.generations.specs.declared.fault.What.TheVariants.{Size}
use Rattle.generations.specs.declared.sizes.TheConstants.{MIN_SECTORS, MAX_SECTORS}

-- With the fault Device a call of the disk has failed, and with another one none has.
abbrev pub CountsDevice : StoreFault → ℕ → ℕ → Type 0
CountsDevice Device old new = HasFailed old new
CountsDevice NotFormatted old new = new ≡ old
CountsDevice TooSmall old new = new ≡ old
CountsDevice (Damaged what) old new = new ≡ old
CountsDevice Memory old new = new ≡ old

-- The fault of a result says whether a call of the disk has failed, and success says that none has.
abbrev pub TellsDevice : {T : Type 0} → Result T StoreFault → (old new : ℕ) → Type 0
TellsDevice result old new = MatchResult result (λ _. new ≡ old) (λ fault. CountsDevice fault old new)

-- How a call ends that formats a disk of this count of sectors: a size that no format has is refused by name, and else only the disk can fail.
pub record EndsFormat {T : Type 0} (sectors : ℕ) (result : Result T StoreFault) : Type 0 where
  pub small : (result ≡ Err TooSmall) ↔ (sectors < MIN_SECTORS)
  pub large : (result ≡ Err (Damaged Size)) ↔ (MAX_SECTORS < sectors)
  pub only : IfErr result (λ fault. (fault ≡ TooSmall) ⊎ (fault ≡ Damaged Size) ⊎ (fault ≡ Device))
