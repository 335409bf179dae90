-- Lists of entries with their keys.
use Rattle.std.proofs.Common.{◌≡◌, ℕ, ◌+◌, ◌<◌, List, [], ◌∷◌, ◌++◌, length, map, get_or, set, take, sym, ap, subst, ◌∙◌, append_assoc, arith}
use Rattle.std.specs.List.Sorted.{IsPermutation}
use Rattle.std.proofs.lemmas.List.{length-append, length-map, map-append, take-append-le, take_all, take_more, take_more_set}
use Rattle.std.proofs.lemmas.List.Sorted.{IsPermutation-map, length_permutation}

module _ {K X : Type 0} where
  -- the entries without their keys
  abbrev pub entries_of : List (K × X) → List X
  entries_of ks = map (λ k. k.1) ks

  -- one entry more is written
  pub written_more : (ks : List (K × X)) (xs : List X) (i : ℕ) (k : K × X) (d : X) → i < length ks → i < length xs → k.1 ≡ get_or xs i d
      → entries_of (take i ks) ≡ take i xs → entries_of (take (i + 1) (set ks i k)) ≡ take (i + 1) xs
  written_more ks xs i k d lt within is so_far =
      ap entries_of (take_more_set ks i k lt)
      ∙ map-append (λ e. e.1) (take i ks) (k ∷ [])
      ∙ ap (λ es. es ++ k.1 ∷ []) so_far
      ∙ ap (λ y. take i xs ++ y ∷ []) is
      ∙ sym (take_more xs i d within)

  -- one entry more is appended
  pub appended_more : (before : List X) (ks : List (K × X)) (i : ℕ) (d : K × X) (now : List X) → i < length ks
      → now ≡ before ++ entries_of (take i ks) → now ++ (get_or ks i d).1 ∷ [] ≡ before ++ entries_of (take (i + 1) ks)
  appended_more before ks i d now lt so_far =
      ap (λ es. es ++ (get_or ks i d).1 ∷ []) so_far
      ∙ append_assoc before (entries_of (take i ks)) ((get_or ks i d).1 ∷ [])
      ∙ ap (λ es. before ++ es) (sym (map-append (λ e. e.1) (take i ks) (get_or ks i d ∷ [])))
      ∙ ap (λ es. before ++ entries_of es) (sym (take_more ks i d lt))

  -- two halves, in whatever order
  pub in_halves : (ks front back : List (K × X)) (m : K × X) (l u : List X) → IsPermutation ks (front ++ m ∷ back) → l ≡ entries_of front
      → u ≡ m.1 ∷ entries_of back → IsPermutation (entries_of ks) (l ++ u)
  in_halves ks front back m l u halves l_is u_is =
      subst (IsPermutation (entries_of ks))
      (map-append (λ e. e.1) front (m ∷ back) ∙ ap (λ xs. xs ++ m.1 ∷ entries_of back) (sym l_is) ∙ ap (λ xs. l ++ xs) (sym u_is))
      (IsPermutation-map (λ e. e.1) ks (front ++ m ∷ back) halves)

  pub halves_len : (ks front back : List (K × X)) (m : K × X) → IsPermutation ks (front ++ m ∷ back) → length front + (1 + length back) ≡ length ks
  halves_len ks front back m halves = omega (arith, length-append front (m ∷ back), length_permutation ks (front ++ m ∷ back) halves)

  -- all are written and sorted, at the start of what has no more than them
  pub sorted_all : (ks rest sorted : List (K × X)) (xs : List X) (n : ℕ) → entries_of ks ≡ xs → n ≡ length xs
      → IsPermutation (take n (ks ++ rest)) sorted → IsPermutation xs (entries_of sorted)
  sorted_all ks rest sorted xs n is len moved =
      let same : length ks ≡ n = omega (arith, len, ap length is, length-map ks (λ k. k.1)) in
      let whole : take n (ks ++ rest) ≡ ks = take-append-le n ks rest (omega (arith, same)) ∙ take_all n ks (omega (arith, same)) in
      subst (λ es. IsPermutation es (entries_of sorted)) is
      (IsPermutation-map (λ k. k.1) ks sorted (subst (λ front. IsPermutation front sorted) whole moved))
