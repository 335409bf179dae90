-- The block where a number belongs.
use Rattle.std.proofs.Common.{◌≡◌, ℕ, zero, suc, ◌+◌, ◌<◌, ◌≤◌, List, [], ◌∷◌, ◌++◌, length, get_or, set, take, drop, None, sym, ap}
use Rattle.std.proofs.Common.{subst, ◌∙◌, inl, inr, arith, append-nil}
use Rattle.std.specs.List.{insert}
use Rattle.std.specs.List.Sorted.{IsNonDecreasingBy}
use Rattle.std.specs.Ordering.{nat_cmp}
use Rattle.std.specs.BTreeMap.{insert_entry, is_at}
use Rattle.std.specs.Map.{lookup, remove_entry}
use Rattle.std.proofs.lemmas.Bool.{cases_lt}
use Rattle.std.proofs.lemmas.List.{take_all, drop_all, drop_more, length-map, get_or-map}
use Rattle.std.proofs.lemmas.List.Concat.{flat_map-append}
use Rattle.std.proofs.lemmas.List.Elements.{All-head, All-tail}
use Rattle.number_map.specs.Blocks.{joined, first_number, firsts_of, Ascends, AreBelow, AreAbove, AreFilled, AreInOrder, IsHome}
use Rattle.number_map.specs.Positions.{IsLastUpTo}
use Rattle.number_map.proofs.Entries.{ascends_head, raised, lowered}
use Rattle.number_map.proofs.Between.{above_right, ascends_left, ascends_right, below_before}
use Rattle.number_map.proofs.Between.{lookup_after, lookup_before, set_after, set_before, removed_after, removed_before}
use Rattle.number_map.proofs.Joined.{joined_at, joined_set, joined_two}
use Rattle.number_map.proofs.Filled.{IsFilled}

module _ {T : Type 0} where
  -- the numbers of one block ascend
  pub ascends_at : (bs : List (List (ℕ × T))) (i : ℕ) (d : List (ℕ × T)) → Ascends (joined bs) → i < length bs → Ascends (get_or bs i d)
  ascends_at bs i d s lt =
      ascends_left (get_or bs i d) (joined (drop (i + 1) bs))
      (ascends_right (joined (take i bs)) (get_or bs i d ++ joined (drop (i + 1) bs)) (subst Ascends (joined_at bs i d lt) s))

  -- ---- first numbers

  -- what follows a block is above its first number
  above_first : (b rest : List (ℕ × T)) → IsFilled b → Ascends (b ++ rest) → AreAbove (first_number b) rest
  above_first [] rest some s = absurd (omega arith)
  above_first (e ∷ es) rest some s = above_right e.0 es rest (ascends_head e (es ++ rest) s)

  -- what comes before a block is below its first number
  below_first : (xs b rest : List (ℕ × T)) → IsFilled b → Ascends (xs ++ (b ++ rest)) → AreBelow (first_number b) xs
  below_first xs [] rest some s = absurd (omega arith)
  below_first xs (e ∷ es) rest some s = below_before xs (es ++ rest) e s

  pub below_part : (xs b : List (ℕ × T)) → IsFilled b → Ascends (xs ++ b) → AreBelow (first_number b) xs
  below_part xs [] some s = absurd (omega arith)
  below_part xs (e ∷ es) some s = below_before xs es e s

  -- a number below the first one is below all
  pub above_block : (n : ℕ) (b : List (ℕ × T)) → n < first_number b → Ascends b → AreAbove n b
  above_block n [] lt s = tt
  above_block n (e ∷ es) lt s = (lt, raised es n e.0 (omega (arith, lt)) (ascends_head e es s))

  above_all : (n : ℕ) (b rest : List (ℕ × T)) → IsFilled b → n < first_number b → Ascends (b ++ rest) → AreAbove n (b ++ rest)
  above_all n [] rest some lt s = absurd (omega arith)
  above_all n (e ∷ es) rest some lt s = (lt, raised (es ++ rest) n e.0 (omega (arith, lt)) (ascends_head e (es ++ rest) s))

  above_head : (n : ℕ) (b rest : List (ℕ × T)) → IsFilled b → AreAbove n (b ++ rest) → n < first_number b
  above_head n [] rest some a = absurd (omega arith)
  above_head n (e ∷ es) rest some a = a.0

  first_above : (n : ℕ) (bs : List (List (ℕ × T))) (j : ℕ) (d : List (ℕ × T)) → AreFilled bs → AreAbove n (joined bs) → j < length bs
      → n < first_number (get_or bs j d)
  first_above n bs j d filled a lt =
      above_head n (get_or bs j d) (joined (drop (j + 1) bs)) (filled j d lt)
      (above_right n (joined (take j bs)) (get_or bs j d ++ joined (drop (j + 1) bs)) (subst (AreAbove n) (joined_at bs j d lt) a))

  -- the first numbers rise from block to block
  pub firsts_rise : (bs : List (List (ℕ × T))) → Ascends (joined bs) → AreFilled bs → IsNonDecreasingBy first_number bs
  firsts_rise [] s filled i j d le lt = absurd (omega arith)
  firsts_rise (b ∷ bs) s filled zero zero d le lt = omega arith
  firsts_rise (b ∷ bs) s filled zero (suc j) d le lt =
      let above = above_first b (joined bs) (All-head IsFilled b bs filled) s in
      omega (arith, first_above (first_number b) bs j d (All-tail IsFilled b bs filled) above (omega arith))
  firsts_rise (b ∷ bs) s filled (suc i) zero d le lt = absurd (omega arith)
  firsts_rise (b ∷ bs) s filled (suc i) (suc j) d le lt =
      firsts_rise bs (ascends_right b (joined bs) s) (All-tail IsFilled b bs filled) i j d (omega arith) (omega arith)

  -- ---- the last block that begins at a number or below it

  above_rest : (bs : List (List (ℕ × T))) (n i : ℕ) → AreInOrder bs → ((d : List (ℕ × T)) → i < length bs → n < first_number (get_or bs i d))
      → AreAbove n (joined (drop i bs))
  above_rest bs n i order above = elim (cases_lt i (length bs)) [
    | inl lt ↦
        let s = ascends_right (joined (take i bs)) (get_or bs i [] ++ joined (drop (i + 1) bs)) (subst Ascends (joined_at bs i [] lt) order.ascending) in
        subst (λ cs. AreAbove n (joined cs)) (sym (drop_more bs i [] lt))
        (above_all n (get_or bs i []) (joined (drop (i + 1) bs)) (order.filled i [] lt) (above [] lt) s)
    | inr past ↦ subst (λ cs. AreAbove n (joined cs)) (sym (drop_all i bs past)) tt
  ]

  home_some : (bs : List (List (ℕ × T))) (n i : ℕ) → AreInOrder bs → i < length bs → first_number (get_or bs i []) ≤ n
      → ((d : List (ℕ × T)) → i + 1 < length bs → n < first_number (get_or bs (i + 1) d)) → IsHome bs n i
  home_some bs n i order lt first above =
      record {
        below =
            lowered (joined (take i bs)) n (first_number (get_or bs i [])) first
            (below_first (joined (take i bs)) (get_or bs i []) (joined (drop (i + 1) bs)) (order.filled i [] lt)
            (subst Ascends (joined_at bs i [] lt) order.ascending));
        above = above_rest bs n (i + 1) order above;
      }

  first_at : (bs : List (List (ℕ × T))) (ns : List ℕ) (k : ℕ) (d : List (ℕ × T)) → ns ≡ firsts_of bs → k < length bs
      → get_or ns k 0 ≡ first_number (get_or bs k d)
  first_at bs ns k d is lt = ap (λ xs. get_or xs k 0) is ∙ get_or-map first_number bs k d 0 lt

  first_beyond : (bs : List (List (ℕ × T))) (ns : List ℕ) (n i k : ℕ) (d : List (ℕ × T)) → ns ≡ firsts_of bs → IsLastUpTo ns n i → i < k → k < length bs
      → n < first_number (get_or bs k d)
  first_beyond bs ns n i k d is last after lt =
      subst (λ f. n < f) (first_at bs ns k d is lt) (last.above k 0 after (omega (arith, lt, ap length is, length-map bs first_number)))

  pub home_at : (bs : List (List (ℕ × T))) (ns : List ℕ) (n i : ℕ) → AreInOrder bs → ns ≡ firsts_of bs → IsLastUpTo ns n i → IsHome bs n i
  home_at bs ns n zero order is last =
      record { below = tt; above = above_rest bs n (0 + 1) order (λ d lt. first_beyond bs ns n 0 1 d is last (omega arith) lt) }
  home_at bs ns n (suc i) order is last =
      let lt : suc i < length bs = omega (arith, last.within (omega arith), ap length is, length-map bs first_number) in
      home_some bs n (suc i) order lt (subst (λ f. f ≤ n) (first_at bs ns (suc i) [] is lt) (last.up_to 0 (omega arith)))
      (λ d more. first_beyond bs ns n (suc i) (suc i + 1) d is last (omega arith) more)

  -- ---- a look-up, a value set and one taken away there

  module _ (bs : List (List (ℕ × T))) (n i : ℕ) (home : IsHome bs n i) where
    pub lookup_home : (d : List (ℕ × T)) → i < length bs → lookup (is_at (nat_cmp n)) (joined bs) ≡ lookup (is_at (nat_cmp n)) (get_or bs i d)
    lookup_home d lt =
        ap (lookup (is_at (nat_cmp n))) (joined_at bs i d lt)
        ∙ lookup_after n (joined (take i bs)) (get_or bs i d ++ joined (drop (i + 1) bs)) home.below
        ∙ lookup_before n (get_or bs i d) (joined (drop (i + 1) bs)) home.above

    -- a number that the block there hasn't is nowhere
    pub absent_home : (b : List (ℕ × T)) → i < length bs → b ≡ get_or bs i b → lookup (is_at (nat_cmp n)) b ≡ None
        → lookup (is_at (nat_cmp n)) (joined bs) ≡ None
    absent_home b lt is none = lookup_home b lt ∙ ap (lookup (is_at (nat_cmp n))) (sym is) ∙ none

    pub absent_past : length bs ≤ i → lookup (is_at (nat_cmp n)) (joined bs) ≡ None
    absent_past past =
        ap (lookup (is_at (nat_cmp n))) (sym (append-nil (joined bs)))
        ∙ lookup_after n (joined bs) [] (subst (λ cs. AreBelow n (joined cs)) (take_all i bs past) home.below)

    -- a number set in the block there is set in all
    set_in : (v : T) (old : List (ℕ × T)) → i < length bs → old ≡ get_or bs i old
        → joined (take i bs) ++ (insert_entry nat_cmp old n v ++ joined (drop (i + 1) bs)) ≡ insert_entry nat_cmp (joined bs) n v
    set_in v old lt old_is =
        ap (λ b. joined (take i bs) ++ (insert_entry nat_cmp b n v ++ joined (drop (i + 1) bs))) old_is
        ∙ ap (λ es. joined (take i bs) ++ es) (sym (set_before n v (get_or bs i old) (joined (drop (i + 1) bs)) home.above))
        ∙ sym (set_after n v (joined (take i bs)) (get_or bs i old ++ joined (drop (i + 1) bs)) home.below)
        ∙ ap (λ es. insert_entry nat_cmp es n v) (sym (joined_at bs i old lt))

    pub set_home : (v : T) (old new : List (ℕ × T)) → i < length bs → old ≡ get_or bs i old → new ≡ insert_entry nat_cmp old n v
        → joined (set bs i new) ≡ insert_entry nat_cmp (joined bs) n v
    set_home v old new lt old_is new_is =
        joined_set bs i new lt ∙ ap (λ b. joined (take i bs) ++ (b ++ joined (drop (i + 1) bs))) new_is ∙ set_in v old lt old_is

    pub set_home_two : (v : T) (old b c : List (ℕ × T)) → i < length bs → old ≡ get_or bs i old → b ++ c ≡ insert_entry nat_cmp old n v
        → joined (insert (set bs i b) (i + 1) c) ≡ insert_entry nat_cmp (joined bs) n v
    set_home_two v old b c lt old_is new_is =
        joined_two bs i b c lt ∙ ap (λ es. joined (take i bs) ++ (es ++ joined (drop (i + 1) bs))) new_is ∙ set_in v old lt old_is

    -- a block of its own after all others
    pub set_last : (v : T) (b : List (ℕ × T)) → length bs ≤ i → b ≡ insert_entry nat_cmp [] n v → joined (bs ++ b ∷ []) ≡ insert_entry nat_cmp (joined bs) n v
    set_last v b past is =
        ap (λ es. joined (bs ++ es ∷ [])) is
        ∙ flat_map-append (λ es. es) bs (insert_entry nat_cmp [] n v ∷ [])
        ∙ sym (set_after n v (joined bs) [] (subst (λ cs. AreBelow n (joined cs)) (take_all i bs past) home.below))
        ∙ ap (λ es. insert_entry nat_cmp es n v) (append-nil (joined bs))

    pub removed_home : (old new : List (ℕ × T)) → i < length bs → old ≡ get_or bs i old → new ≡ remove_entry (is_at (nat_cmp n)) old
        → joined (set bs i new) ≡ remove_entry (is_at (nat_cmp n)) (joined bs)
    removed_home old new lt old_is new_is =
        joined_set bs i new lt
        ∙ ap (λ b. joined (take i bs) ++ (b ++ joined (drop (i + 1) bs))) (new_is ∙ ap (remove_entry (is_at (nat_cmp n))) old_is)
        ∙ ap (λ es. joined (take i bs) ++ es) (sym (removed_before n (get_or bs i old) (joined (drop (i + 1) bs)) home.above))
        ∙ sym (removed_after n (joined (take i bs)) (get_or bs i old ++ joined (drop (i + 1) bs)) home.below)
        ∙ ap (remove_entry (is_at (nat_cmp n))) (sym (joined_at bs i old lt))
