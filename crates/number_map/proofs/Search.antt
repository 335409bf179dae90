-- Where a search among ascending numbers ends.
use Rattle.std.proofs.Common.{◌≡◌, ℕ, zero, suc, ◌<◌, ◌≤◌, List, [], ◌∷◌, length, get_or, Result, Ok, Err, IfOk, IfErr, sym, ap, arith}
use Rattle.std.specs.Ordering.{nat_cmp, ordering_index}
use Rattle.std.specs.List.Sorted.{IsSearchInRange, IsBinarySearchResult, IsNonDecreasingBy}
use Rattle.std.proofs.lemmas.Cmp.{ranked}
use Rattle.std.proofs.lemmas.Bool.Decides.{nat_tests}
use Rattle.number_map.specs.Blocks.{Ascends}
use Rattle.number_map.specs.Positions.{HasAt, IsGapFor}
use Rattle.number_map.proofs.Entries.{ascends_head, ascends_tail}

module _ {T : Type 0} (n : ℕ) where
  first_below : (e : ℕ × T) (es : List (ℕ × T)) (i : ℕ) (d : ℕ × T) → Ascends (e ∷ es) → i < length es → e.0 < (get_or es i d).0
  first_below e [] i d s lt = absurd (omega arith)
  first_below e (f ∷ es) zero d s lt = (ascends_head e (f ∷ es) s).0
  first_below e (f ∷ es) (suc i) d s lt =
      let h : e.0 < f.0 = (ascends_head e (f ∷ es) s).0 in
      let r = first_below f es i d (ascends_tail e (f ∷ es) s) (omega arith) in
      omega arith

  ascend_at : (es : List (ℕ × T)) (i j : ℕ) (d : ℕ × T) → Ascends es → i < j → j < length es → (get_or es i d).0 < (get_or es j d).0
  ascend_at [] i j d s lt in_range = absurd (omega arith)
  ascend_at (e ∷ es) i zero d s lt in_range = absurd (omega arith)
  ascend_at (e ∷ es) zero (suc j) d s lt in_range = first_below e es j d s (omega arith)
  ascend_at (e ∷ es) (suc i) (suc j) d s lt in_range = ascend_at es i j d (ascends_tail e es s) (omega arith) (omega arith)

  -- the comparisons with a number rise along the list, as a binary search asks
  rises : (es : List (ℕ × T)) → Ascends es → IsNonDecreasingBy (λ e. ordering_index (nat_cmp e.0 n)) es
  rises es s i j d le in_range =
      let at_least : (get_or es i d).0 ≤ (get_or es j d).0 = grind (arith, ascend_at es i j d s, λ (same : i ≡ j). ap (λ k. (get_or es k d).0) same) in
      grind (arith, nat_tests)

  -- an index at which an entry has the number is the number's index
  pub found_there : (es : List (ℕ × T)) (i : ℕ) (d : ℕ × T) → Ascends es → i < length es → (get_or es i d).0 ≡ n → HasAt es n i
  found_there [] i d s lt h = absurd (omega arith)
  found_there (e ∷ es) zero d s lt h = h
  found_there (e ∷ es) (suc i) d s lt h =
      let before = first_below e es i d s (omega arith) in
      (omega arith, found_there es i d (ascends_tail e es s) (omega arith) h)

  found_at : (es : List (ℕ × T)) (i : ℕ) → Ascends es → i < length es → ((d : ℕ × T) → (get_or es i d).0 ≡ n) → HasAt es n i
  found_at [] i s lt h = absurd (omega arith)
  found_at (e ∷ es) i s lt h = found_there (e ∷ es) i e s lt (h e)

  gap_for : (es : List (ℕ × T)) (i : ℕ) → i ≤ length es → ((k : ℕ) (d : ℕ × T) → k < i → (get_or es k d).0 < n)
      → ((d : ℕ × T) → i < length es → n < (get_or es i d).0) → IsGapFor es n i
  gap_for [] zero le below above = tt
  gap_for [] (suc i) le below above = absurd (omega arith)
  gap_for (e ∷ es) zero le below above = above e (omega arith)
  gap_for (e ∷ es) (suc i) le below above =
      (below 0 e (omega arith), gap_for es i (omega arith) (λ k d lt. below (suc k) d (omega arith)) (λ d lt. above d (omega arith)))

  -- a binary search by number ends at the number's index, or in the gap for it
  pub searched : (es : List (ℕ × T)) (r : Result ℕ ℕ) → Ascends es → IsSearchInRange r (length es) → IsBinarySearchResult (λ e. nat_cmp e.0 n) es r
      → record { found : IfOk r (HasAt es n); absent : IfErr r (IsGapFor es n) }
  searched es (Ok i) s in_range same = record { found = found_at es i s in_range (λ d. ranked _ _ _ (sym (same d))); absent = tt }
  searched es (Err i) s in_range parted =
      let parts = parted (rises es s) in
      record {
        found = tt;
        absent =
            gap_for es i in_range (λ k d lt. ranked _ _ _ (sym (parts.0 k d (omega arith) lt))) (λ d lt. ranked _ _ _ (sym (parts.1 i d (omega arith) lt)));
      }
