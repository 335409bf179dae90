-- What meets a box of the world, whatever its zooms.
use Rattle.std.proofs.Common.{◌≡◌, ℕ, ◌+◌, ◌*◌, ◌<◌, ◌≤◌, Bool, true, false, cond, List, [], ◌∷◌, ◌++◌, length, get_or, take, drop, map, All, Option, Some, None}
use Rattle.std.proofs.Common.{refl, sym, ap, subst, ◌∙◌, arith}
use Rattle.std.specs.List.{filter}
use Rattle.std.specs.List.Sorted.{IsPermutation, IsNonDecreasing, IsNonDecreasingBy}
use Rattle.std.proofs.lemmas.List.Sorted.{sum_by-IsPermutation}
use Rattle.std.proofs.lemmas.List.Kept.{IsNonDecreasingBy-filter}
use Rattle.std.proofs.lemmas.List.{map-append, append_assoc, append-nil, length-append, take-append-drop}
use Rattle.std.proofs.lemmas.List.Concat.{flat_map-append}
use Rattle.std.proofs.lemmas.List.Elements.{filter_more, filter-append, All-head, All-tail}
use Rattle.std.proofs.lemmas.Bool.Decides.{nat_tests}
use Rattle.feature_model.specs.declared.feature.WorldBox.{WorldBox}
use Rattle.box_index.specs.Blocks.{joined}
use Rattle.box_index.specs.Covers.{Covers, CoversAll}
use Rattle.box_index.specs.Met.{is_met, ids_met, AreAdded}
use Rattle.box_index.specs.Shown.{meets}
use Rattle.box_index.specs.declared.entry.IndexEntry.{IndexEntry}
use Rattle.box_index.specs.declared.runs.TheConstants.{RUN}
use Rattle.box_index.specs.declared.span.Span.{Span}
use Rattle.box_index.proofs.Order.{same_order, keys_up, times-same, times-filter-same}
use Rattle.box_index.proofs.Reach.{joined_more}

module _ (bounds : WorldBox) (from : ℕ) where
  -- where a span's box meets nothing, what is within it meets nothing
  none_within : (s : Span) (e : IndexEntry) → Covers s e.span → meets s.bounds bounds ≡ false → is_met bounds from e ≡ false
  none_within s e covers none = grind (arith, nat_tests)

  pub none_met : (s : Span) (es : List IndexEntry) → CoversAll s es → meets s.bounds bounds ≡ false → ids_met bounds from es ≡ []
  none_met s [] all none = refl
  none_met s (e ∷ es) all none =
      let out : is_met bounds from e ≡ false = none_within s e (All-head (λ x. Covers s x.span) e es all) none in
      rw out (none_met s es (All-tail (λ x. Covers s x.span) e es all) none)

  -- those of two lists are those of one and those of the other
  pub ids_met-append : (xs ys : List IndexEntry) → ids_met bounds from (xs ++ ys) ≡ ids_met bounds from xs ++ ids_met bounds from ys
  ids_met-append xs ys =
      ap (map (λ x. x.id)) (filter-append (is_met bounds from) xs ys) ∙ map-append (λ x. x.id) (filter (is_met bounds from) xs) (filter (is_met bounds from) ys)

  -- the same of blocks
  pub none_met_in : (s : Span) (bs : List (List IndexEntry)) → All (CoversAll s) bs → meets s.bounds bounds ≡ false → ids_met bounds from (joined bs) ≡ []
  none_met_in s [] all none = refl
  none_met_in s (b ∷ bs) all none =
      ids_met-append b (joined bs)
      ∙ ap (λ ids. ids ++ ids_met bounds from (joined bs)) (none_met s b (All-head (CoversAll s) b bs all) none)
      ∙ none_met_in s bs (All-tail (CoversAll s) b bs all) none

  -- one entry more
  ids_met_more : (es : List IndexEntry) (i : ℕ) (d : IndexEntry) → i < length es
      → ids_met bounds from (take (i + 1) es)
      ≡ ids_met bounds from (take i es) ++ cond (is_met bounds from (get_or es i d)) ((get_or es i d).id ∷ []) []
  ids_met_more es i d lt =
      ap (map (λ x. x.id)) (filter_more (is_met bounds from) es i d lt)
      ∙ map-append (λ x. x.id) (filter (is_met bounds from) (take i es)) (cond (is_met bounds from (get_or es i d)) (get_or es i d ∷ []) [])
      ∙ ap (λ ns. ids_met bounds from (take i es) ++ ns) (by (is_met bounds from (get_or es i d)))
    where
      by : (b : Bool) → map (λ (x : IndexEntry). x.id) (cond b (get_or es i d ∷ []) []) ≡ cond b ((get_or es i d).id ∷ []) []
      by true = refl
      by false = refl

  -- the ids so far, where the entry meets the box, and where it doesn't
  pub found_more : (es : List IndexEntry) (i : ℕ) (d : IndexEntry) (old found : List ℕ) → i < length es → found ≡ old ++ ids_met bounds from (take i es)
      → is_met bounds from (get_or es i d) ≡ true → found ++ (get_or es i d).id ∷ [] ≡ old ++ ids_met bounds from (take (i + 1) es)
  found_more es i d old found lt so_far met =
      ap (λ ns. ns ++ (get_or es i d).id ∷ []) so_far ∙ append_assoc old (ids_met bounds from (take i es)) ((get_or es i d).id ∷ [])
      ∙ ap (λ ns. old ++ ns) (sym (ids_met_more es i d lt ∙ ap (λ b. ids_met bounds from (take i es) ++ cond b ((get_or es i d).id ∷ []) []) met))

  pub found_same : (es : List IndexEntry) (i : ℕ) (d : IndexEntry) (old found : List ℕ) → i < length es → found ≡ old ++ ids_met bounds from (take i es)
      → is_met bounds from (get_or es i d) ≡ false → found ≡ old ++ ids_met bounds from (take (i + 1) es)
  found_same es i d old found lt so_far other =
      so_far
      ∙ ap (λ ns. old ++ ns) (sym (ids_met_more es i d lt ∙ ap (λ b. ids_met bounds from (take i es) ++ cond b ((get_or es i d).id ∷ []) []) other
      ∙ append-nil (ids_met bounds from (take i es))))

  -- no more are met than there are
  pub few_met : (es : List IndexEntry) → length (ids_met bounds from es) ≤ length es
  few_met [] = omega arith
  few_met (e ∷ es) = by (is_met bounds from e) refl (few_met es)
    where
      by : (b : Bool) → is_met bounds from e ≡ b → length (ids_met bounds from es) ≤ length es → length (ids_met bounds from (e ∷ es)) ≤ length (e ∷ es)
      by true is rest = rw is (omega (arith, rest))
      by false is rest = rw is (omega (arith, rest))

  -- ---- within a count

  -- nothing of a list is met
  pub added_none : (es : List IndexEntry) (left : ℕ) (old : List ℕ) → ids_met bounds from es ≡ [] → AreAdded bounds from es left old old (Some left)
  added_none es left old none = (sym (ap (λ ns. old ++ ns) none ∙ append-nil old), omega arith, omega arith)

  -- all of a list is looked at
  pub added_all : (es : List IndexEntry) (left rest : ℕ) (old new : List ℕ) → length es ≤ left → rest + length es ≡ left
      → new ≡ old ++ ids_met bounds from es → AreAdded bounds from es left old new (Some rest)
  added_all es left rest old new fits is added =
      (added, omega (arith, is, few_met es, ap length added ∙ length-append old (ids_met bounds from es)), omega (arith, is))

  -- of two lists
  pub added_both : (xs ys : List IndexEntry) (left rest : ℕ) (old mid new : List ℕ) (o : Option ℕ) → AreAdded bounds from xs left old mid (Some rest)
      → AreAdded bounds from ys rest mid new o → AreAdded bounds from (xs ++ ys) left old new o
  added_both xs ys left rest old mid new None first second = omega (arith, first.2, second, length-append xs ys)
  added_both xs ys left rest old mid new (Some fewer) first second = (
    second.0 ∙ ap (λ ns. ns ++ ids_met bounds from ys) first.0 ∙ append_assoc old (ids_met bounds from xs) (ids_met bounds from ys)
        ∙ ap (λ ns. old ++ ns) (sym (ids_met-append xs ys)),
    omega (arith, first.1, second.1),
    omega (arith, first.2, second.2, length-append xs ys),
  )

  -- ---- in ascending order

  pub in_order : (es kept : List IndexEntry) (ns : List ℕ) → IsPermutation (ids_met bounds from kept) ns → IsNonDecreasing ns → IsPermutation es kept
      → IsNonDecreasingBy (λ e. e.id) es → ns ≡ ids_met bounds from es
  in_order es kept ns sorted up same es_up =
      same_order ns (ids_met bounds from es) up
      (keys_up (λ e. e.id) (filter (is_met bounds from) es) (IsNonDecreasingBy-filter (λ e. e.id) (is_met bounds from) es es_up))
      (λ n. sym (times-same n (ids_met bounds from kept) ns sorted)
      ∙ sym (times-filter-same (λ e. e.id) (is_met bounds from) n es kept (λ f. sym (sum_by-IsPermutation f es kept same))))

-- the entries of the first blocks, and of those after them
pub joined_split : (n : ℕ) (bs : List (List IndexEntry)) → joined bs ≡ joined (take n bs) ++ joined (drop n bs)
joined_split n bs = ap joined (sym (take-append-drop n bs)) ∙ flat_map-append (λ es. es) (take n bs) (drop n bs)

-- the first blocks have too many entries, and so have all
pub too_many : (n left : ℕ) (bs : List (List IndexEntry)) → left < length (joined (take n bs)) → left < length (joined bs)
too_many n left bs more =
    omega (arith, more, ap length (joined_split n bs), length-append (joined (take n bs)) (joined (drop n bs)))
