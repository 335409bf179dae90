-- What holds where a copy ends with the fault of a call.
use Rattle.std.proofs.Common.{◌≡◌, ℕ, Result, Err, sym, ap, ◌∙◌, subst}
use Rattle.std.specs.Result.{IsErrAnd, IfErr}
use Rattle.std.proofs.lemmas.Result.{err_from_is_err_and}
use Rattle.disk_copy.specs.Faults.{TellsCopy, CountsCopy}
use Rattle.disk_copy.specs.declared.fault.CopyFault.{CopyFault}

module _ {T : Type 0} (result : Result T CopyFault) (fault : CopyFault) (is : IsErrAnd result (λ y. y ≡ fault)) where
  is_err : result ≡ Err fault
  is_err = let p = err_from_is_err_and result is in p.1 ∙ ap (λ (y : CopyFault). Err y) p.2

  -- what is so of the call's fault
  pub exit_is : (P : CopyFault → Type 0) → P fault → IfErr result P
  exit_is P it = subst (λ (r : Result T CopyFault). IfErr r P) (sym is_err) it

  -- its calls of the two disks, after calls of which none failed
  pub exit_tells : {old first other_old other_first : ℕ} (new other_new : ℕ) → first ≡ old → other_first ≡ other_old
      → CountsCopy fault first new other_first other_new → TellsCopy result old new other_old other_new
  exit_tells {old} {first} {other_old} {other_first} new other_new same other_same told =
      subst (λ (r : Result T CopyFault). TellsCopy r old new other_old other_new) (sym is_err)
      (subst (λ (n : ℕ). CountsCopy fault n new other_old other_new) same
      (subst (λ (n : ℕ). CountsCopy fault first new n other_new) other_same told))
