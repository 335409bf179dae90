-- What the reads of a disk say of time.
use Rattle.std.proofs.Common.{◌≡◌, ℕ, zero, suc, ◌≤◌, List, Result, Ok, Err, sym, ◌∙◌, ap, subst, arith}
use Rattle.std.specs.Prelude.{OnOk, OnErr}
use Rattle.sector_disk.specs.Disk.{Image}
use Rattle.disk_copy.specs.Shared.{IsOf}
use Rattle.disk_copy.specs.Noted.{count_of, moment_of, AreOf, HasNoted}
use Rattle.disk_copy.specs.declared.watched.Reads.{Reads}

-- no moment is before the opening
pub opened_before : (opened : ℕ) (waits : ℕ → ℕ) (k : ℕ) → opened ≤ moment_of opened waits k
opened_before opened waits zero = omega arith
opened_before opened waits (suc k) = omega (arith, opened_before opened waits k)

-- a read takes its time
pub goes_on_noted : (opened : ℕ) (waits : ℕ → ℕ) (old new : Reads) (at : ℕ) (bytes : List ℕ) → HasNoted old at bytes new
    → moment_of opened waits (count_of old) ≤ moment_of opened waits (count_of new)
goes_on_noted opened waits old new at bytes noted =
    subst (λ (k : ℕ). moment_of opened waits (count_of old) ≤ moment_of opened waits k) (sym noted.count_is) (omega arith)

-- and gives what the disk had at its end
pub shows_noted : (images : ℕ → Image) (opened : ℕ) (waits : ℕ → ℕ) (old new : Reads) (at : ℕ) (bytes : List ℕ) → HasNoted old at bytes new
    → AreOf images opened waits new → IsOf images (moment_of opened waits (count_of old)) (moment_of opened waits (count_of new)) at bytes
shows_noted images opened waits old new at bytes noted are = (
  moment_of opened waits (count_of new),
  goes_on_noted opened waits old new at bytes noted,
  omega arith,
  (noted.is_of images opened waits are).1 ∙ ap (λ (k : ℕ). images (moment_of opened waits k) at) (sym noted.count_is),
)

-- either a read was noted, or nothing was
pub read_goes_on : {T E P : Type 0} (images : ℕ → Image) (opened : ℕ) (waits : ℕ → ℕ) (old new : Reads) (at : ℕ) (bytes : List ℕ) (result : Result T E)
    → OnOk result (HasNoted old at bytes new) → OnErr result P → (P → new ≡ old)
    → (moment_of opened waits (count_of old) ≤ moment_of opened waits (count_of new)) × (AreOf images opened waits new → AreOf images opened waits old)
read_goes_on images opened waits old new at bytes (Ok value) noted unchanged same =
    (goes_on_noted opened waits old new at bytes noted, λ are. (noted.is_of images opened waits are).0)
read_goes_on images opened waits old new at bytes (Err fault) noted unchanged same =
    let is : new ≡ old = same unchanged in (
      subst (λ (r : Reads). moment_of opened waits (count_of old) ≤ moment_of opened waits (count_of r)) (sym is) (omega arith),
      subst (AreOf images opened waits) is,
    )
