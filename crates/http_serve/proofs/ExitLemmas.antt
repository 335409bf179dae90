-- What the exit of a question mark returns.
use Rattle.std.proofs.Common.{◌≡◌, sym, ap, subst}
use Rattle.std.specs.Prelude.{Result, Ok, Err, IfOk, IfErr}
use Rattle.std.specs.Result.{IsErrAnd}

-- The exit of a question mark returns no value.
pub exit_no_value : {A E : Type 0} (r : Result A E) (P : A → Type 0) (Q : E → Type 0) → IsErrAnd r Q → IfOk r P
exit_no_value (Ok a) P Q is = absurd is
exit_no_value (Err e) P Q is = tt

-- The exit of a question mark returns the error that it is given.
pub exit_is : {A E : Type 0} (r : Result A E) (e : E) → IsErrAnd r (λ f. f ≡ e) → r ≡ Err e
exit_is (Ok a) e is = absurd is
exit_is (Err f) e is = ap Err is

-- What holds for an error holds for the error that the exit of a question mark returns.
pub exit_fault : {A E : Type 0} (r : Result A E) (P : E → Type 0) (e : E) → IsErrAnd r (λ f. f ≡ e) → P e → IfErr r P
exit_fault (Ok a) P e is x = tt
exit_fault (Err f) P e is x = subst P (sym is) x
