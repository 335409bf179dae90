-- A loop that reads a given number of parts.
use Rattle.std.proofs.Common.{◌≡◌, ℕ, ◌+◌, ◌-◌, ◌<◌, ◌≤◌, List, [], ◌∷◌, ◌++◌, Ok, Err}
use Rattle.reader.specs.Reading.{◌>>=◌, repeated}
use Rattle.reader.proofs.Steps.{then_on, then_stop, repeated_on, repeated_stop, repeated_done}
use Rattle.edit_text.specs.declared.fault.TextFault.{TextFault}
use Rattle.edit_text.specs.Reading.{Part, then_read, next_at, many_at}

-- how reading goes on with what the next is read as
abbrev pub goes_on : {A : Type 0} → (List A → List ℕ → Part A) → ℕ → List A → Part A → Part (List A)
goes_on read n done next = then_read next (λ x rest. Ok (done ++ x ∷ [], rest)) >>= repeated (next_at read) n

module _ {A : Type 0} (read : List A → List ℕ → Part A) where
  -- one was read
  pub many_step : (count i : ℕ) (done : List A) (bytes : List ℕ) (x : A) (rest : List ℕ) (whole : Part (List A))
      → i < count → many_at read (count - i) done bytes ≡ whole → read done bytes ≡ Ok (x, rest)
      → many_at read (count - (i + 1)) (done ++ x ∷ []) rest ≡ whole
  many_step count i done bytes x rest whole h so_far one =
      repeated_on (next_at read) count i (done, bytes) (done ++ x ∷ [], rest) whole h so_far
      (then_on (read done bytes) (λ y. Ok (done ++ y.0 ∷ [], y.1)) (x, rest) one)

  -- one could not be read
  pub many_stop : (count i : ℕ) (done : List A) (bytes : List ℕ) (fault : TextFault) (whole : Part (List A))
      → i < count → many_at read (count - i) done bytes ≡ whole → read done bytes ≡ Err fault → whole ≡ Err fault
  many_stop count i done bytes fault whole h so_far one =
      repeated_stop (next_at read) count i (done, bytes) fault whole h so_far
      (then_stop (read done bytes) (λ y. Ok (done ++ y.0 ∷ [], y.1)) fault one)

  -- all were read
  pub many_done : (count i : ℕ) (done : List A) (bytes : List ℕ) (whole : Part (List A))
      → count ≤ i → many_at read (count - i) done bytes ≡ whole → whole ≡ Ok (done, bytes)
  many_done count i done bytes whole h so_far = repeated_done (next_at read) count i (done, bytes) whole h so_far
