-- Bytes that are read after the first ones of a content.
use Rattle.std.proofs.Common.{◌≡◌, ◌∙◌, ℕ, ◌+◌, ◌-◌, ◌≤◌, List, [], ◌++◌, length, take, drop, replicate, slice_range, sym, ap, arith, append-nil}
use Rattle.std.proofs.Common.{length-append, take_at, length-drop, length-take-le, drop-drop}
use Rattle.std.proofs.lemmas.List.{drop_all, take_all}
use Rattle.std.proofs.Math.Seq.{take-add}
use Rattle.published_tiles.specs.Reading.{AreFrom}

size_of : (a b n : ℕ) → b ≡ a + n → b - a ≡ n
size_of a b n is = omega (arith, is)

-- bytes of an archive, and those that follow
pub read_more : (bytes front more : List ℕ) (offset n : ℕ) → length front ≡ n → AreFrom bytes offset front
    → more ≡ slice_range bytes (offset + n) (offset + n + length more) → AreFrom bytes offset (front ++ more)
read_more bytes front more offset n long first then =
    let a : ℕ = n in
    let b : ℕ = length more in
    let size : length (front ++ more) ≡ a + b = length-append front more ∙ ap (λ (k : ℕ). k + b) long in
    let front_is : front ≡ take a (drop offset bytes) =
    first ∙ ap (λ (k : ℕ). take k (drop offset bytes)) (size_of offset (offset + length front) (length front) (omega arith) ∙ long) in
    let more_is : more ≡ take b (drop a (drop offset bytes)) =
    then ∙ ap (λ (k : ℕ). take k (drop (offset + n) bytes)) (size_of (offset + n) (offset + n + b) b (omega arith))
    ∙ ap (take b) (sym (drop-drop a offset bytes)) in
    let whole : take (offset + length (front ++ more) - offset) (drop offset bytes) ≡ take (a + b) (drop offset bytes) =
    ap (λ (k : ℕ). take k (drop offset bytes)) (size_of offset (offset + length (front ++ more)) (length (front ++ more)) (omega arith) ∙ size) in
    ap (λ (xs : List ℕ). xs ++ more) front_is ∙ ap (λ (xs : List ℕ). take a (drop offset bytes) ++ xs) more_is
    ∙ sym (take-add a b (drop offset bytes)) ∙ sym whole

-- a list of which all after the first elements were written
pub written_after : (xs front more rest : List ℕ) (n k len : ℕ) → take n xs ≡ front → n + k ≡ length xs → length more ≡ k → n ≤ length xs
    → len ≡ length xs → take len (take n xs ++ (more ++ drop k (drop n xs)) ++ rest) ≡ front ++ more
written_after xs front more rest n k len front_is whole size fits len_is =
    let none : drop k (drop n xs) ≡ [] = drop_all k (drop n xs) (omega (arith, length-drop n xs, whole)) in
    let same : take n xs ++ (more ++ drop k (drop n xs)) ≡ front ++ more =
    ap (λ (ys : List ℕ). take n xs ++ (more ++ ys)) none ∙ ap (λ (ys : List ℕ). take n xs ++ ys) (append-nil more)
    ∙ ap (λ (ys : List ℕ). ys ++ more) front_is in
    let long : length (front ++ more) ≡ len =
    length-append front more ∙ ap (λ (ys : List ℕ). length ys + length more) (sym front_is)
    ∙ omega (arith, length-take-le n xs fits, size, whole, len_is) in
    ap (λ (ys : List ℕ). take len (ys ++ rest)) same ∙ take_at (front ++ more) rest len long

-- the first elements of a list that was filled up
pub filled_front : (front xs : List ℕ) (n count : ℕ) → length front ≡ n → n ≤ count → xs ≡ take count front ++ replicate (count - n) 0
    → take n xs ≡ front
filled_front front xs n count long fits is =
    ap (take n) (is ∙ ap (λ (ys : List ℕ). ys ++ replicate (count - n) 0) (take_all count front (omega (arith, long, fits))))
    ∙ take_at front (replicate (count - n) 0) n long
