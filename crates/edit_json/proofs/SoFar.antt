-- A loop that reads a list: what is read so far, and what the rest gives.
use Rattle.std.proofs.Common.{◌≡◌, List, [], ◌∷◌, ◌++◌, Ok, Err, refl, sym, ap, append_assoc}
use Rattle.reader.specs.Reading.{Read, ◌>>=◌}

module _ {Fault A : Type 0} where
  abbrev pub goes_on : List A → Read Fault (List A) → Read Fault (List A)
  goes_on xs rest = rest >>= (λ ys. Ok (xs ++ ys))

  pub goes_on-cons : (xs : List A) (x : A) (rest : Read Fault (List A))
      → goes_on xs (rest >>= (λ ys. Ok (x ∷ ys))) ≡ goes_on (xs ++ x ∷ []) rest
  goes_on-cons xs x (Err e) = refl
  goes_on-cons xs x (Ok ys) = ap (λ zs. Ok zs) (sym (append_assoc xs (x ∷ []) ys))
