-- Blocks one after another.
use Rattle.std.proofs.Common.{◌≡◌, ℕ, suc, ◌+◌, ◌<◌, List, [], ◌∷◌, ◌++◌, length, get_or, set, take, drop, sym, ap, ◌∙◌, add-one, append_assoc, arith}
use Rattle.std.specs.List.{insert}
use Rattle.std.proofs.lemmas.List.{take-append-drop, drop_at, take-append-le, take-take, length-take-le}
use Rattle.std.proofs.lemmas.List.{get_or-take, get_or_append_left, get_or_default, set_split}
use Rattle.std.proofs.lemmas.List.{take_more_set, drop-set-lt, drop_more}
use Rattle.std.proofs.lemmas.List.Concat.{flat_map-append}
use Rattle.number_map.specs.Blocks.{joined}

module _ {T : Type 0} where
  -- the block at an index, between those before it and those after it
  pub joined_at : (bs : List (List (ℕ × T))) (i : ℕ) (d : List (ℕ × T)) → i < length bs
      → joined bs ≡ joined (take i bs) ++ (get_or bs i d ++ joined (drop (i + 1) bs))
  joined_at bs i d lt =
      ap joined (sym (take-append-drop i bs))
      ∙ flat_map-append (λ es. es) (take i bs) (drop i bs)
      ∙ ap (λ rest. joined (take i bs) ++ joined rest) (drop_more bs i d lt)

  -- a block replaced
  pub joined_set : (bs : List (List (ℕ × T))) (i : ℕ) (b : List (ℕ × T)) → i < length bs
      → joined (set bs i b) ≡ joined (take i bs) ++ (b ++ joined (drop (i + 1) bs))
  joined_set bs i b lt =
      ap joined (set_split bs i b lt)
      ∙ flat_map-append (λ es. es) (take i bs) (b ∷ drop (suc i) bs)
      ∙ ap (λ n. joined (take i bs) ++ (b ++ joined (drop n bs))) (sym (add-one i))

  -- a block replaced by two
  pub joined_two : (bs : List (List (ℕ × T))) (i : ℕ) (b c : List (ℕ × T)) → i < length bs
      → joined (insert (set bs i b) (i + 1) c) ≡ joined (take i bs) ++ ((b ++ c) ++ joined (drop (i + 1) bs))
  joined_two bs i b c lt =
      ap (λ front. joined (front ++ c ∷ drop (i + 1) (set bs i b))) (take_more_set bs i b lt)
      ∙ ap (λ rest. joined ((take i bs ++ b ∷ []) ++ c ∷ rest)) (drop-set-lt (i + 1) bs i b (omega arith))
      ∙ ap joined (append_assoc (take i bs) (b ∷ []) (c ∷ drop (i + 1) bs))
      ∙ flat_map-append (λ es. es) (take i bs) (b ∷ c ∷ drop (i + 1) bs)
      ∙ ap (λ rest. joined (take i bs) ++ rest) (sym (append_assoc b c (joined (drop (i + 1) bs))))

  -- an empty block taken out
  pub joined_without : (bs : List (List (ℕ × T))) (i : ℕ) (d : List (ℕ × T)) → i < length bs → get_or bs i d ≡ []
      → joined (take i bs ++ drop (i + 1) bs) ≡ joined bs
  joined_without bs i d lt none =
      flat_map-append (λ es. es) (take i bs) (drop (i + 1) bs)
      ∙ ap (λ es. joined (take i bs) ++ (es ++ joined (drop (i + 1) bs))) (sym none)
      ∙ sym (joined_at bs i d lt)

  -- two blocks replaced by one that has the entries of both
  front_of : (bs : List (List (ℕ × T))) (i : ℕ) → i + 1 < length bs → take i (take (i + 1) bs ++ drop (i + 1 + 1) bs) ≡ take i bs
  front_of bs i lt =
      take-append-le i (take (i + 1) bs) (drop (i + 1 + 1) bs) (omega (arith, length-take-le (i + 1) bs (omega arith)))
      ∙ take-take i (i + 1) bs (omega arith)

  back_of : (bs : List (List (ℕ × T))) (i : ℕ) → i + 1 < length bs → drop (i + 1) (take (i + 1) bs ++ drop (i + 1 + 1) bs) ≡ drop (i + 1 + 1) bs
  back_of bs i lt = drop_at (take (i + 1) bs) (drop (i + 1 + 1) bs) (i + 1) (length-take-le (i + 1) bs (omega arith))

  kept_at : (bs : List (List (ℕ × T))) (i : ℕ) (d : List (ℕ × T)) → i + 1 < length bs
      → get_or (take (i + 1) bs ++ drop (i + 1 + 1) bs) i d ≡ get_or bs i d
  kept_at bs i d lt =
      get_or_append_left (take (i + 1) bs) (drop (i + 1 + 1) bs) d i (omega (arith, length-take-le (i + 1) bs (omega arith)))
      ∙ get_or-take (i + 1) bs i d (omega arith)

  -- a block has as many entries as before the one after it was taken out
  pub length_kept : (bs rest : List (List (ℕ × T))) (i : ℕ) (b was : List (ℕ × T)) → i + 1 < length bs
      → rest ≡ take (i + 1) bs ++ drop (i + 1 + 1) bs → b ≡ get_or rest i b → was ≡ get_or bs i was → length b ≡ length was
  length_kept bs rest i b was lt rest_is b_is was_is =
      ap length (b_is ∙ ap (λ xs. get_or xs i b) rest_is ∙ kept_at bs i b lt ∙ get_or_default bs i b was (omega arith) ∙ sym was_is)

  pub joined_one : (bs rest : List (List (ℕ × T))) (i : ℕ) (b c new : List (ℕ × T)) → i + 1 < length bs → i < length rest
      → rest ≡ take (i + 1) bs ++ drop (i + 1 + 1) bs → b ≡ get_or rest i b → c ≡ get_or bs (i + 1) c → new ≡ b ++ c
      → joined (set rest i new) ≡ joined bs
  joined_one bs rest i b c new lt within rest_is b_is c_is new_is =
      joined_set rest i new within
      ∙ ap (λ xs. joined xs ++ (new ++ joined (drop (i + 1) rest))) (ap (take i) rest_is ∙ front_of bs i lt)
      ∙ ap (λ xs. joined (take i bs) ++ (new ++ joined xs)) (ap (drop (i + 1)) rest_is ∙ back_of bs i lt)
      ∙ ap (λ xs. joined (take i bs) ++ (xs ++ joined (drop (i + 1 + 1) bs))) new_is
      ∙ ap (λ xs. joined (take i bs) ++ xs) (append_assoc b c (joined (drop (i + 1 + 1) bs)))
      ∙ ap (λ xs. joined (take i bs) ++ (b ++ (xs ++ joined (drop (i + 1 + 1) bs)))) c_is
      ∙ ap (λ xs. joined (take i bs) ++ (xs ++ (get_or bs (i + 1) c ++ joined (drop (i + 1 + 1) bs))))
      (b_is ∙ ap (λ xs. get_or xs i b) rest_is ∙ kept_at bs i b lt)
      ∙ ap (λ xs. joined (take i bs) ++ (get_or bs i b ++ joined xs)) (sym (drop_more bs (i + 1) c lt))
      ∙ sym (joined_at bs i b (omega arith))
