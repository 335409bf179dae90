-- A part of some bytes, and of bytes in two parts.
use Rattle.std.proofs.Common.{◌≡◌, ℕ, zero, suc, ◌+◌, ◌-◌, ◌≤◌, List, [], ◌∷◌, ◌++◌, length, take, drop, replicate, slice_range}
use Rattle.std.proofs.Common.{refl, sym, ap, ◌∙◌, append_assoc, arith}
use Rattle.std.proofs.lemmas.List.{length-append, take-append-drop, take-take, take_at, drop_at, drop-replicate}
use Rattle.std.proofs.lemmas.Slice.{between_is}
use borrow.Rule.Slice.PartMut.{put_mid}
use Rattle.area_content.specs.Content.{padded}

drop_joined : (s : ℕ) (xs ys : List ℕ) → drop s (xs ++ ys) ≡ drop s xs ++ drop (s - length xs) ys
drop_joined zero [] ys = refl
drop_joined (suc s) [] ys = let e : suc s ≡ suc s - 0 = omega arith in ap (λ (n : ℕ). drop n ys) e
drop_joined zero (x ∷ xs) ys = let e : 0 ≡ 0 - length (x ∷ xs) = omega arith in ap (λ (n : ℕ). x ∷ xs ++ drop n ys) e
drop_joined (suc s) (x ∷ xs) ys =
    let e : s - length xs ≡ suc s - length (x ∷ xs) = omega arith in
    drop_joined s xs ys ∙ ap (λ (n : ℕ). drop s xs ++ drop n ys) e

take_joined : (n : ℕ) (xs ys : List ℕ) → take n (xs ++ ys) ≡ take n xs ++ take (n - length (take n xs)) ys
take_joined zero [] ys = refl
take_joined (suc n) [] ys = let e : suc n ≡ suc n - 0 = omega arith in ap (λ (k : ℕ). take k ys) e
take_joined zero (x ∷ xs) ys = refl
take_joined (suc n) (x ∷ xs) ys =
    let e : n - length (take n xs) ≡ suc n - length (x ∷ take n xs) = omega arith in
    ap (λ (zs : List ℕ). x ∷ zs) (take_joined n xs ys ∙ ap (λ (k : ℕ). take n xs ++ take k ys) e)

-- some bytes from an offset on, of bytes in two parts
pub part_joined : (n s : ℕ) (xs ys : List ℕ)
    → take n (drop s (xs ++ ys)) ≡ take n (drop s xs) ++ take (n - length (take n (drop s xs))) (drop (s - length xs) ys)
part_joined n s xs ys = ap (λ (zs : List ℕ). take n zs) (drop_joined s xs ys) ∙ take_joined n (drop s xs) (drop (s - length xs) ys)

-- a sector of bytes in two parts
pub sector_joined : (front contents p q : List ℕ) (start behind most : ℕ) → p ≡ take 512 (drop start front) → q ≡ take most (drop behind contents)
    → most ≡ 512 - length p → behind ≡ start - length front → p ++ q ≡ take 512 (drop start (front ++ contents))
sector_joined front contents p q start behind most p_is q_is most_is behind_is =
    ap (λ (x : List ℕ). p ++ x)
    (q_is ∙ ap (λ (j : ℕ). take j (drop behind contents)) most_is ∙ ap (λ (j : ℕ). take (512 - length p) (drop j contents)) behind_is)
    ∙ ap (λ (x : List ℕ). x ++ take (512 - length x) (drop (start - length front) contents)) p_is ∙ sym (part_joined 512 start front contents)

-- a second part written after the first
pub parts_padded : (f s sector new : List ℕ) (k : ℕ) → length f + length s ≤ 512 → sector ≡ padded f → new ≡ s → k ≡ length s
    → put_mid (length f) k sector new ≡ padded (f ++ s)
parts_padded f s sector new k le is same size =
    let n = 512 - length f in
    let rest : List ℕ = replicate n 0 in
    let e : n - length s ≡ 512 - length (f ++ s) = omega (arith, length-append f s) in
    ap (λ (xs : List ℕ). put_mid (length f) k xs new) is ∙ ap (λ (ys : List ℕ). put_mid (length f) k (f ++ rest) ys) same
    ∙ ap (λ (j : ℕ). put_mid (length f) j (f ++ rest) s) size
    ∙ ap (λ (xs : List ℕ). xs ++ (s ++ drop (length s) (drop (length f) (f ++ rest)))) (take_at f rest (length f) refl)
    ∙ ap (λ (xs : List ℕ). f ++ (s ++ drop (length s) xs)) (drop_at f rest (length f) refl)
    ∙ ap (λ (xs : List ℕ). f ++ (s ++ xs)) (drop-replicate (length s) n 0)
    ∙ sym (append_assoc f s (replicate (n - length s) 0)) ∙ ap (λ (j : ℕ). (f ++ s) ++ replicate j 0) e

-- the first bytes of a list and a part after them
pub part_put : (put size : ℕ) (xs ahead seen : List ℕ) → ahead ≡ take put xs → seen ≡ xs → ahead ++ slice_range seen put (put + size) ≡ take (put + size) xs
part_put put size xs ahead seen is same =
    let part : slice_range seen put (put + size) ≡ drop put (take (put + size) xs) =
    ap (λ (ys : List ℕ). slice_range ys put (put + size)) same ∙ between_is xs put (put + size) in
    ap (λ (ys : List ℕ). ys ++ slice_range seen put (put + size)) (is ∙ sym (take-take put (put + size) xs (omega arith)))
    ∙ ap (λ (ys : List ℕ). take put (take (put + size) xs) ++ ys) part ∙ take-append-drop put (take (put + size) xs)
