-- Parts of lists that are appended to one another.
use Rattle.std.proofs.Common.{◌≡◌, ℕ, zero, suc, ◌+◌, ◌-◌, ◌<◌, ◌≤◌, List, [], ◌∷◌, ◌++◌, length, take, drop, get_or, slice_range}
use Rattle.std.proofs.Common.{refl, sym, ap, ◌∙◌, append_assoc, arith}
use Rattle.std.specs.List.{AllByRecursion, concat}
use Rattle.std.proofs.lemmas.List.{append-nil, length-append, take-append-le, take-append-drop, take-take, take_at, drop-drop, drop-take}
use Rattle.std.proofs.lemmas.List.Folds.{concat-append}
use Rattle.std.proofs.lemmas.Slice.{between_is, between_from_start}
use Rattle.std.proofs.Math.Seq.{drop-append-add}

-- what is appended doesn't change a part before it
pub part_front : {X : Type 0} (xs ys : List X) (i j : ℕ) → j ≤ length xs → slice_range (xs ++ ys) i j ≡ slice_range xs i j
part_front xs ys i j le =
    between_is (xs ++ ys) i j ∙ ap (λ (zs : List _). drop i zs) (take-append-le j xs ys le) ∙ sym (between_is xs i j)

-- a part of what is appended
pub part_behind : {X : Type 0} (xs ys : List X) (n i j : ℕ) → length xs ≡ n → slice_range (xs ++ ys) (n + i) (n + j) ≡ slice_range ys i j
part_behind xs ys n i j e =
    let size : (n + j) - (n + i) ≡ j - i = omega arith in
    let start : drop (n + i) (xs ++ ys) ≡ drop i ys = ap (λ (m : ℕ). drop (m + i) (xs ++ ys)) (sym e) ∙ drop-append-add xs ys i in
    ap (λ (m : ℕ). take m (drop (n + i) (xs ++ ys))) size ∙ ap (λ (zs : List _). take (j - i) zs) start

-- the part in front
pub part_first : {X : Type 0} (xs ys : List X) (n : ℕ) → length xs ≡ n → slice_range (xs ++ ys) 0 n ≡ xs
part_first xs ys n e = between_from_start (xs ++ ys) n ∙ take_at xs ys n e

-- the part in the middle
pub part_middle : {X : Type 0} (xs ys zs : List X) (i j : ℕ) → length xs ≡ i → i + length ys ≡ j → slice_range (xs ++ (ys ++ zs)) i j ≡ ys
part_middle xs ys zs i j e f =
    let start : slice_range (xs ++ (ys ++ zs)) (i + 0) (i + length ys) ≡ slice_range (ys ++ zs) 0 (length ys) = part_behind xs (ys ++ zs) i 0 (length ys) e in
    let low : i + 0 ≡ i = omega arith in
    ap (λ (n : ℕ). slice_range (xs ++ (ys ++ zs)) i n) (sym f) ∙ ap (λ (n : ℕ). slice_range (xs ++ (ys ++ zs)) n (i + length ys)) (sym low) ∙ start
    ∙ part_first ys zs (length ys) refl

-- a part of a part
pub part_of_part : {X : Type 0} (xs : List X) (a b i j : ℕ) → a + j ≤ b → slice_range (slice_range xs a b) i j ≡ slice_range xs (a + i) (a + j)
part_of_part xs a b i j le =
    let whole : slice_range (slice_range xs a b) i j ≡ drop i (take j (take (b - a) (drop a xs))) = between_is (slice_range xs a b) i j in
    let shorter : take j (take (b - a) (drop a xs)) ≡ take j (drop a xs) = take-take j (b - a) (drop a xs) (omega arith) in
    let back : drop (a + i) (take (a + j) xs) ≡ drop i (drop a (take (a + j) xs)) = sym (drop-drop i a (take (a + j) xs)) in
    let inner : drop a (take (a + j) xs) ≡ take j (drop a xs) = drop-take a j xs in
    whole ∙ ap (λ (zs : List _). drop i zs) (shorter ∙ sym inner) ∙ sym back ∙ sym (between_is xs (a + i) (a + j))

-- ---- what holds of each

pub all_drop : {X : Type 0} (P : X → Type 0) (n : ℕ) (xs : List X) → AllByRecursion P xs → AllByRecursion P (drop n xs)
all_drop P zero xs h = h
all_drop P (suc n) [] h = tt
all_drop P (suc n) (x ∷ xs) h = all_drop P n xs h.1

pub all_push : {X : Type 0} (P : X → Type 0) (xs : List X) (x : X) → AllByRecursion P xs → P x → AllByRecursion P (xs ++ x ∷ [])
all_push P [] x h p = (p, tt)
all_push P (y ∷ ys) x h p = (h.0, all_push P ys x h.1 p)

pub all_front : {X : Type 0} (P : X → Type 0) (xs ys : List X) → AllByRecursion P (xs ++ ys) → AllByRecursion P xs
all_front P [] ys h = tt
all_front P (x ∷ xs) ys h = (h.0, all_front P xs ys h.1)

pub all_back : {X : Type 0} (P : X → Type 0) (xs ys : List X) → AllByRecursion P (xs ++ ys) → AllByRecursion P ys
all_back P [] ys h = h
all_back P (x ∷ xs) ys h = all_back P xs ys h.1

-- one of some lists, in all of them one after the other
pub part_at : (cs : List (List ℕ)) (i : ℕ) → i < length cs
    → (rest : List ℕ) × (concat cs ≡ concat (take i cs) ++ (get_or cs i [] ++ rest))
part_at [] i lt = absurd (omega (arith, lt))
part_at (c ∷ cs) zero lt = (concat cs, refl)
part_at (c ∷ cs) (suc i) lt =
    let on = part_at cs i (omega (arith, lt)) in
    (on.0, ap (λ (xs : List ℕ). c ++ xs) on.1 ∙ sym (append_assoc c (concat (take i cs)) (get_or cs i [] ++ on.0)))

-- where each of some lists is in all of them
pub record LiesAt (bytes piece : List ℕ) (offset len : ℕ) : Type 0 where
  pub within : offset + len ≤ length bytes
  pub there : slice_range bytes offset (offset + len) ≡ piece

lies_at : (cs : List (List ℕ)) (bytes : List ℕ) (i offset len : ℕ) → bytes ≡ concat cs → i < length cs → offset ≡ length (concat (take i cs))
    → len ≡ length (get_or cs i []) → LiesAt bytes (get_or cs i []) offset len
lies_at cs bytes i offset len is lt at size =
    let p = part_at cs i lt in
    let whole : bytes ≡ concat (take i cs) ++ (get_or cs i [] ++ p.0) = is ∙ p.1 in
    let end : offset + length (get_or cs i []) ≡ offset + len = ap (λ (n : ℕ). offset + n) (sym size) in
    record {
      within = omega (
        arith,
        at,
        size,
        ap (λ (xs : List ℕ). length xs) whole,
        length-append (concat (take i cs)) (get_or cs i [] ++ p.0),
        length-append (get_or cs i []) p.0,
      );
      there = ap (λ (xs : List ℕ). slice_range xs offset (offset + len)) whole
          ∙ part_middle (concat (take i cs)) (get_or cs i []) p.0 offset (offset + len) (sym at) end;
    }

-- bytes of which the first ones are these
pub first_parts : (n : ℕ) (bytes front : List ℕ) → take n bytes ≡ front → bytes ≡ front ++ drop n bytes
first_parts n bytes front is = sym (take-append-drop n bytes) ∙ ap (λ (xs : List ℕ). xs ++ drop n bytes) is

pub first_within : (bytes front : List ℕ) → take (length front) bytes ≡ front → length front ≤ length bytes
first_within bytes front is =
    let whole = first_parts (length front) bytes front is in
    omega (arith, ap (λ (xs : List ℕ). length xs) whole, length-append front (drop (length front) bytes))

-- where each of some lists is in bytes that begin with all of them
pub lies_stored : (cs : List (List ℕ)) (bytes : List ℕ) (i offset len : ℕ) → take (length (concat cs)) bytes ≡ concat cs → i < length cs
    → offset ≡ length (concat (take i cs)) → len ≡ length (get_or cs i []) → LiesAt bytes (get_or cs i []) offset len
lies_stored cs bytes i offset len is lt at size =
    let lies = lies_at cs (concat cs) i offset len refl lt at size in
    record {
      within = omega (arith, lies.within, first_within bytes (concat cs) is);
      there = ap (λ (xs : List ℕ). slice_range xs offset (offset + len)) (first_parts (length (concat cs)) bytes (concat cs) is)
          ∙ part_front (concat cs) (drop (length (concat cs)) bytes) offset (offset + len) lies.within ∙ lies.there;
    }

-- some lists and one more, one after the other
pub concat_one_more : (cs : List (List ℕ)) (d : List ℕ) → concat (cs ++ d ∷ []) ≡ concat cs ++ d
concat_one_more cs d = concat-append cs (d ∷ []) ∙ ap (λ (xs : List ℕ). concat cs ++ xs) (append-nil d)
