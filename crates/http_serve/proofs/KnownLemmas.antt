-- What sequences of reads and writes do to known bytes.
use Rattle.std.proofs.Common.{ℕ, ◌+◌, ◌<◌, List, [], ◌++◌, length, take, Option, None, Some, Result, Ok, Err, ◌∙◌, ap, subst, append_assoc, sym, refl, arith}
use Rattle.std.proofs.Common.{length-append}
use Rattle.std.proofs.lemmas.List.{append-nil, take-append-le}
use Rattle.std.proofs.Math.Seq.{take-append-add}
use Rattle.http_serve.specs.Sent.{Sends}
use Rattle.std.specs.Io.KnownBytes.{Appends, Consumes, Keeps}

pub Appends-then : (u v w : Option (List ℕ)) (a b : List ℕ) → Appends u v a → Appends v w b → Appends u w (a ++ b)
Appends-then None v w a b x y = tt
Appends-then (Some xs) None w a b x y = absurd x
Appends-then (Some xs) (Some ys) None a b x y = y
Appends-then (Some xs) (Some ys) (Some zs) a b x y = y ∙ ap (λ (t : List ℕ). t ++ b) x ∙ append_assoc xs a b

pub Appends_none : (u : Option (List ℕ)) → Appends u u []
Appends_none None = tt
Appends_none (Some xs) = sym (append-nil xs)

pub Consumes-then : (u v w : Option (List ℕ)) (a b : List ℕ) → Consumes u v a → Consumes v w b → Consumes u w (a ++ b)
Consumes-then None v w a b x y = tt
Consumes-then (Some xs) None w a b x y = absurd x
Consumes-then (Some xs) (Some ys) None a b x y = absurd y
Consumes-then (Some xs) (Some ys) (Some zs) a b x y = x ∙ ap (λ (t : List ℕ). a ++ t) y ∙ sym (append_assoc a b zs)

pub Consumes_none : (u : Option (List ℕ)) → Consumes u u []
Consumes_none None = tt
Consumes_none (Some xs) = refl

pub Appends-kept : (u v w : Option (List ℕ)) (a : List ℕ) → Appends u v a → Keeps v w → Appends u w a
Appends-kept None v w a x y = tt
Appends-kept (Some xs) None w a x y = absurd x
Appends-kept (Some xs) (Some ys) None a x y = absurd y
Appends-kept (Some xs) (Some ys) (Some zs) a x y = y ∙ x

-- ---- sending

pub Sent_first : (u v : Option (List ℕ)) (n : ℕ) (first second : List ℕ) → n < length first → Appends u v (take n first)
    → (k : ℕ) × (k < length (first ++ second)) × Appends u v (take k (first ++ second))
Sent_first u v n first second some x =
    let P : List ℕ → Type 0 = λ t. Appends u v t in
    (n, omega (arith, length-append first second), subst P (sym (take-append-le n first second (omega arith))) x)

pub Sends-then : {A E : Type 0} (r : Result A E) (u v w : Option (List ℕ)) (first second : List ℕ) → Appends u v first
    → Sends r v w second → Sends r u w (first ++ second)
Sends-then (Ok a) u v w first second x y = Appends-then u v w first second x y
Sends-then (Err e) u v w first second x y =
    let P : List ℕ → Type 0 = λ t. Appends u w t in
    let some = y.1 in (
      length first + y.0,
      omega (arith, length-append first second),
      subst P (sym (take-append-add first second y.0)) (Appends-then u v w first (take y.0 second) x y.2),
    )
