-- What an outcome says, where one thing follows from another.
use Rattle.std.proofs.Common.{Result, Ok, Err}
use Rattle.std.specs.Prelude.{OnOk, OnErr}

pub told_ok : {X E : Type 0} (r : Result X E) (P Q : Type 0) → (P → Q) → OnOk r P → OnOk r Q
told_ok (Ok x) P Q f is = f is
told_ok (Err e) P Q f is = tt

pub told_err : {X E : Type 0} (r : Result X E) (P Q : Type 0) → (P → Q) → OnErr r P → OnErr r Q
told_err (Ok x) P Q f is = tt
told_err (Err e) P Q f is = f is
