-- What a function returns where a `?` passes a fault on.
use Rattle.std.proofs.Common.{◌≡◌, ◌⊎◌, inl, inr, ℕ, Result, Err, IsErr, IsErrAnd, ◌∙◌, sym, ap, subst}
use Rattle.std.proofs.lemmas.Result.{err_from_is_err_and, MatchResult-from_err}
use Rattle.sector_disk.specs.Asked.{TellsFailure}
use Rattle.sector_disk.specs.Disk.{Image, HasFailed}
use Rattle.generations.specs.Disks.{IsFaultOf}
use Rattle.generations.specs.Sectors.{IsFormat, IsBad, IsNoRoot}
use Rattle.generations.specs.declared.fault.StoreFault.{StoreFault}
use Rattle.generations.specs.declared.fault.StoreFault.TheVariants.{Device, Damaged}
use Rattle.generations.specs.declared.fault.What.TheVariants.{RootSector}

-- the fault that is passed on is the one that the call gave
pub passed_on : {T E : Type 0} (result : Result T E) (given : E) → IsErrAnd result (λ told. told ≡ given) → result ≡ Err given
passed_on result given told =
    let passed = err_from_is_err_and result told in
    passed.1 ∙ ap Err passed.2

-- a fault other than Device that a root's sector gives is one that the disk has
pub slot_fault : (count : ℕ) (image : Image) (n : ℕ) (fault : StoreFault) {Bad : Type 0} → IsFormat count (image 0) n
    → (Bad → IsBad n 0 (image 1) ⊎ IsBad n 1 (image 2) ⊎ (IsNoRoot (image 1) × IsNoRoot (image 2)))
    → (fault ≡ Device) ⊎ (fault ≡ Damaged RootSector) → (fault ≡ Device) ⊎ Bad → (fault ≡ Device) ⊎ IsFaultOf count image fault
slot_fault count image n fault format there (inl device) told = inl device
slot_fault count image n fault format there (inr root) (inl device) = inl device
slot_fault count image n fault format there (inr root) (inr bad) = inr (subst (IsFaultOf count image) (sym root) (n, format, there bad))

-- a call of the disk failed, after calls of which none did
pub failed_after : {T E : Type 0} (result : Result T E) {old middle : ℕ} (new : ℕ) → IsErr result → middle ≡ old → HasFailed middle new
    → TellsFailure result old new
failed_after result new is same failed = MatchResult-from_err result _ _ is (λ fault. subst (λ (n : ℕ). HasFailed n new) same failed)
