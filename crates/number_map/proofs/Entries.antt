-- What a position among entries says of them, and what is kept when a number is set or taken away.
use Rattle.std.proofs.Common.{◌≡◌, ◌≢◌, ℕ, zero, suc, ◌+◌, ◌<◌, ◌≤◌, cond, List, [], ◌∷◌, length, get_or, set, Some, None, IsSome, refl, sym, ap, subst, ◌∙◌}
use Rattle.std.proofs.Common.{arith}
use Rattle.std.specs.List.{insert, remove, AllByRecursion}
use Rattle.std.specs.Option.{is_some, IsNone}
use Rattle.std.specs.List.Sorted.{IsStrictlySortedBy}
use Rattle.std.specs.Ordering.{nat_cmp, match_ordering}
use Rattle.std.specs.declared.cmp.Ordering.{Ordering}
use Rattle.std.specs.declared.cmp.Ordering.TheVariants.{Less, Equal, Greater}
use Rattle.std.specs.BTreeMap.{insert_entry, is_at}
use Rattle.std.specs.Map.{keys_of, lookup, remove_entry}
use Rattle.std.proofs.lemmas.Map.Keys.{sorted_head, sorted_tail}
use mathlib.Core.Bool.{false≢true}
use Rattle.number_map.specs.Blocks.{Ascends, AreBelow, AreAbove}
use Rattle.number_map.specs.Positions.{HasAt, IsGapFor}
use Rattle.number_map.proofs.Numbers.{less, equal, greater, below, at_same, at_other, by_order}

-- no numbers ascend
pub ascends_none : IsStrictlySortedBy nat_cmp []
unfolding IsStrictlySortedBy
ascends_none = tt

module _ {T : Type 0} where
  -- ---- ascending entries

  above_from : (n : ℕ) (es : List (ℕ × T)) → AllByRecursion (λ k. nat_cmp n k ≡ Less) (keys_of es) → AreAbove n es
  above_from n [] h = tt
  above_from n (e ∷ es) h = (below n e.0 h.0, above_from n es h.1)

  above_to : (n : ℕ) (es : List (ℕ × T)) → AreAbove n es → AllByRecursion (λ k. nat_cmp n k ≡ Less) (keys_of es)
  above_to n [] h = tt
  above_to n (e ∷ es) h = (less n e.0 h.0, above_to n es h.1)

  pub ascends_head : (e : ℕ × T) (es : List (ℕ × T)) → Ascends (e ∷ es) → AreAbove e.0 es
  ascends_head e es s = above_from e.0 es (sorted_head nat_cmp _ _ s)

  pub ascends_tail : (e : ℕ × T) (es : List (ℕ × T)) → Ascends (e ∷ es) → Ascends es
  ascends_tail e es s = sorted_tail nat_cmp _ _ s

  pub ascends_cons : (e : ℕ × T) (es : List (ℕ × T)) → AreAbove e.0 es → Ascends es → Ascends (e ∷ es)
  unfolding IsStrictlySortedBy
  ascends_cons e es a s = (above_to e.0 es a, s)

  -- what is above a number is above a lower one
  pub raised : (es : List (ℕ × T)) (n k : ℕ) → n ≤ k → AreAbove k es → AreAbove n es
  raised [] n k le a = tt
  raised (e ∷ es) n k le a = let h = a.0 in (omega arith, raised es n k le a.1)

  -- what is below a number is below a higher one
  pub lowered : (es : List (ℕ × T)) (n k : ℕ) → k ≤ n → AreBelow k es → AreBelow n es
  lowered [] n k le b = tt
  lowered (e ∷ es) n k le b = let h = b.0 in (omega arith, lowered es n k le b.1)

  -- ---- one step of a look-up, of setting and of taking away

  pub lookup_here : (n : ℕ) (e : ℕ × T) (es : List (ℕ × T)) → n ≡ e.0 → lookup (is_at (nat_cmp n)) (e ∷ es) ≡ Some e.1
  lookup_here n e es h = ap (λ b. cond b (Some e.1) (lookup (is_at (nat_cmp n)) es)) (at_same n e.0 h)

  pub lookup_on : (n : ℕ) (e : ℕ × T) (es : List (ℕ × T)) → n ≢ e.0 → lookup (is_at (nat_cmp n)) (e ∷ es) ≡ lookup (is_at (nat_cmp n)) es
  lookup_on n e es h = ap (λ b. cond b (Some e.1) (lookup (is_at (nat_cmp n)) es)) (at_other n e.0 h)

  pub removed_here : (n : ℕ) (e : ℕ × T) (es : List (ℕ × T)) → n ≡ e.0 → remove_entry (is_at (nat_cmp n)) (e ∷ es) ≡ es
  removed_here n e es h = ap (λ b. cond b es (e ∷ remove_entry (is_at (nat_cmp n)) es)) (at_same n e.0 h)

  pub removed_on : (n : ℕ) (e : ℕ × T) (es : List (ℕ × T)) → n ≢ e.0
      → remove_entry (is_at (nat_cmp n)) (e ∷ es) ≡ e ∷ remove_entry (is_at (nat_cmp n)) es
  removed_on n e es h = ap (λ b. cond b es (e ∷ remove_entry (is_at (nat_cmp n)) es)) (at_other n e.0 h)

  pub set_step : (n : ℕ) (v : T) (e : ℕ × T) (es : List (ℕ × T)) (o : Ordering) → nat_cmp n e.0 ≡ o
      → insert_entry nat_cmp (e ∷ es) n v ≡ match_ordering o ((n, v) ∷ e ∷ es) ((e.0, v) ∷ es) (e ∷ insert_entry nat_cmp es n v)
  set_step n v e es o h = ap (λ r. match_ordering r ((n, v) ∷ e ∷ es) ((e.0, v) ∷ es) (e ∷ insert_entry nat_cmp es n v)) h

  -- ---- at a position

  pub found_in : (es : List (ℕ × T)) (n i : ℕ) → HasAt es n i → i < length es
  found_in [] n i h = absurd h
  found_in (e ∷ es) n zero h = omega arith
  found_in (e ∷ es) n (suc i) h = omega (arith, found_in es n i h.1)

  pub gap_in : (es : List (ℕ × T)) (n i : ℕ) → IsGapFor es n i → i ≤ length es
  gap_in [] n zero h = omega arith
  gap_in [] n (suc i) h = absurd h
  gap_in (e ∷ es) n zero h = omega arith
  gap_in (e ∷ es) n (suc i) h = omega (arith, gap_in es n i h.1)

  pub lookup_found : (es : List (ℕ × T)) (n i : ℕ) (d : ℕ × T) → HasAt es n i → lookup (is_at (nat_cmp n)) es ≡ Some (get_or es i d).1
  lookup_found [] n i d h = absurd h
  lookup_found (e ∷ es) n zero d h = lookup_here n e es (sym h)
  lookup_found (e ∷ es) n (suc i) d h = lookup_on n e es (λ s. omega (arith, h.0)) ∙ lookup_found es n i d h.1

  pub lookup_above : (es : List (ℕ × T)) (n : ℕ) → AreAbove n es → lookup (is_at (nat_cmp n)) es ≡ None
  lookup_above [] n a = refl
  lookup_above (e ∷ es) n a = lookup_on n e es (λ s. omega (arith, a.0)) ∙ lookup_above es n a.1

  pub lookup_gap : (es : List (ℕ × T)) (n i : ℕ) → Ascends es → IsGapFor es n i → lookup (is_at (nat_cmp n)) es ≡ None
  lookup_gap [] n i s h = refl
  lookup_gap (e ∷ es) n zero s h =
      lookup_on n e es (λ t. omega (arith, h)) ∙ lookup_above es n (raised es n e.0 (omega (arith, h)) (ascends_head e es s))
  lookup_gap (e ∷ es) n (suc i) s h = lookup_on n e es (λ t. omega (arith, h.0)) ∙ lookup_gap es n i (ascends_tail e es s) h.1

  pub set_found : (es : List (ℕ × T)) (n i : ℕ) (v : T) → HasAt es n i → set es i (n, v) ≡ insert_entry nat_cmp es n v
  set_found [] n i v h = absurd h
  set_found (e ∷ es) n zero v h = ap (λ (k : ℕ). let x : ℕ × T = (k, v) in x ∷ es) (sym h) ∙ sym (set_step n v e es Equal (equal n e.0 (sym h)))
  set_found (e ∷ es) n (suc i) v h = ap (λ x. e ∷ x) (set_found es n i v h.1) ∙ sym (set_step n v e es Greater (greater n e.0 h.0))

  pub insert_gap : (es : List (ℕ × T)) (n i : ℕ) (v : T) → IsGapFor es n i → insert es i (n, v) ≡ insert_entry nat_cmp es n v
  insert_gap [] n zero v h = refl
  insert_gap [] n (suc i) v h = absurd h
  insert_gap (e ∷ es) n zero v h = sym (set_step n v e es Less (less n e.0 h))
  insert_gap (e ∷ es) n (suc i) v h = ap (λ x. e ∷ x) (insert_gap es n i v h.1) ∙ sym (set_step n v e es Greater (greater n e.0 h.0))

  pub remove_found : (es : List (ℕ × T)) (n i : ℕ) → HasAt es n i → remove es i ≡ remove_entry (is_at (nat_cmp n)) es
  remove_found [] n i h = absurd h
  remove_found (e ∷ es) n zero h = sym (removed_here n e es (sym h))
  remove_found (e ∷ es) n (suc i) h = ap (λ x. e ∷ x) (remove_found es n i h.1) ∙ sym (removed_on n e es (λ s. omega (arith, h.0)))

  pub remove_above : (es : List (ℕ × T)) (n : ℕ) → AreAbove n es → remove_entry (is_at (nat_cmp n)) es ≡ es
  remove_above [] n a = refl
  remove_above (e ∷ es) n a = removed_on n e es (λ s. omega (arith, a.0)) ∙ ap (λ x. e ∷ x) (remove_above es n a.1)

  pub remove_gap : (es : List (ℕ × T)) (n i : ℕ) → Ascends es → IsGapFor es n i → remove_entry (is_at (nat_cmp n)) es ≡ es
  remove_gap [] n i s h = refl
  remove_gap (e ∷ es) n zero s h =
      removed_on n e es (λ t. omega (arith, h)) ∙ ap (λ x. e ∷ x) (remove_above es n (raised es n e.0 (omega (arith, h)) (ascends_head e es s)))
  remove_gap (e ∷ es) n (suc i) s h =
      removed_on n e es (λ t. omega (arith, h.0)) ∙ ap (λ x. e ∷ x) (remove_gap es n i (ascends_tail e es s) h.1)

  -- ---- what is kept

  above_set : (m : ℕ) (es : List (ℕ × T)) (n : ℕ) (v : T) → m < n → AreAbove m es → AreAbove m (insert_entry nat_cmp es n v)
  above_set m [] n v lt a = (lt, tt)
  above_set m (e ∷ es) n v lt a = by_order n e.0
      (λ h. subst (AreAbove m) (sym (set_step n v e es Less (less n e.0 h))) (lt, a))
      (λ h. subst (AreAbove m) (sym (set_step n v e es Equal (equal n e.0 h))) a)
      (λ h. subst (AreAbove m) (sym (set_step n v e es Greater (greater n e.0 h))) (a.0, above_set m es n v lt a.1))

  pub ascends_set : (es : List (ℕ × T)) (n : ℕ) (v : T) → Ascends es → Ascends (insert_entry nat_cmp es n v)
  ascends_set [] n v s = ascends_cons (n, v) [] tt s
  ascends_set (e ∷ es) n v s = by_order n e.0
      (λ h. subst Ascends (sym (set_step n v e es Less (less n e.0 h)))
      (ascends_cons (n, v) (e ∷ es) (h, raised es n e.0 (omega (arith, h)) (ascends_head e es s)) s))
      (λ h. subst Ascends (sym (set_step n v e es Equal (equal n e.0 h))) (ascends_cons (e.0, v) es (ascends_head e es s) (ascends_tail e es s)))
      (λ h. subst Ascends (sym (set_step n v e es Greater (greater n e.0 h)))
      (ascends_cons e (insert_entry nat_cmp es n v) (above_set e.0 es n v h (ascends_head e es s)) (ascends_set es n v (ascends_tail e es s))))

  above_removed : (m : ℕ) (es : List (ℕ × T)) (n : ℕ) → AreAbove m es → AreAbove m (remove_entry (is_at (nat_cmp n)) es)
  above_removed m [] n a = tt
  above_removed m (e ∷ es) n a =
      let on : (n ≢ e.0) → AreAbove m (remove_entry (is_at (nat_cmp n)) (e ∷ es)) =
      λ h. subst (AreAbove m) (sym (removed_on n e es h)) (a.0, above_removed m es n a.1) in
      by_order n e.0 (λ h. on (λ s. omega arith)) (λ h. subst (AreAbove m) (sym (removed_here n e es h)) a.1) (λ h. on (λ s. omega arith))

  pub ascends_removed : (es : List (ℕ × T)) (n : ℕ) → Ascends es → Ascends (remove_entry (is_at (nat_cmp n)) es)
  ascends_removed [] n s = s
  ascends_removed (e ∷ es) n s =
      let on : (n ≢ e.0) → Ascends (remove_entry (is_at (nat_cmp n)) (e ∷ es)) =
      λ h. subst Ascends (sym (removed_on n e es h))
      (ascends_cons e (remove_entry (is_at (nat_cmp n)) es) (above_removed e.0 es n (ascends_head e es s)) (ascends_removed es n (ascends_tail e es s))) in
      by_order n e.0 (λ h. on (λ t. omega arith)) (λ h. subst Ascends (sym (removed_here n e es h)) (ascends_tail e es s)) (λ h. on (λ t. omega arith))

  -- ---- how many there are

  pub not_both : {G : Type 0} (n : ℕ) (es : List (ℕ × T)) → IsNone (lookup (is_at (nat_cmp n)) es) → IsSome (lookup (is_at (nat_cmp n)) es) → G
  not_both n es none some = absurd (false≢true (sym none ∙ some))

  pub length_set_new : (es : List (ℕ × T)) (n : ℕ) (v : T) → IsNone (lookup (is_at (nat_cmp n)) es)
      → length (insert_entry nat_cmp es n v) ≡ length es + 1
  length_set_new [] n v none = refl
  length_set_new (e ∷ es) n v none = by_order n e.0
      (λ h. omega (arith, ap length (set_step n v e es Less (less n e.0 h))))
      (λ h. not_both n (e ∷ es) none (ap is_some (lookup_here n e es h)))
      (λ h.
      let there : n ≢ e.0 = λ s. omega arith in
      omega (arith, ap length (set_step n v e es Greater (greater n e.0 h)), length_set_new es n v (sym (ap is_some (lookup_on n e es there)) ∙ none)))

  pub length_set_same : (es : List (ℕ × T)) (n : ℕ) (v : T) → Ascends es → IsSome (lookup (is_at (nat_cmp n)) es)
      → length (insert_entry nat_cmp es n v) ≡ length es
  length_set_same [] n v s some = absurd (false≢true some)
  length_set_same (e ∷ es) n v s some = by_order n e.0
      (λ h. not_both n (e ∷ es) (ap is_some (lookup_above (e ∷ es) n (h, raised es n e.0 (omega (arith, h)) (ascends_head e es s)))) some)
      (λ h. omega (arith, ap length (set_step n v e es Equal (equal n e.0 h))))
      (λ h.
      let there : n ≢ e.0 = λ s. omega arith in
      omega (
        arith,
        ap length (set_step n v e es Greater (greater n e.0 h)),
        length_set_same es n v (ascends_tail e es s) (sym (ap is_some (lookup_on n e es there)) ∙ some),
      ))

  pub length_set_some : (es : List (ℕ × T)) (n : ℕ) (v : T) → 0 < length (insert_entry nat_cmp es n v)
  length_set_some [] n v = omega arith
  length_set_some (e ∷ es) n v = by_order n e.0
      (λ h. omega (arith, ap length (set_step n v e es Less (less n e.0 h))))
      (λ h. omega (arith, ap length (set_step n v e es Equal (equal n e.0 h))))
      (λ h. omega (arith, ap length (set_step n v e es Greater (greater n e.0 h))))

  pub length_removed : (es : List (ℕ × T)) (n : ℕ) → IsSome (lookup (is_at (nat_cmp n)) es)
      → length (remove_entry (is_at (nat_cmp n)) es) + 1 ≡ length es
  length_removed [] n some = absurd (false≢true some)
  length_removed (e ∷ es) n some =
      let on : (n ≢ e.0) → length (remove_entry (is_at (nat_cmp n)) (e ∷ es)) + 1 ≡ length (e ∷ es) =
      λ h. omega (arith, ap length (removed_on n e es h), length_removed es n (sym (ap is_some (lookup_on n e es h)) ∙ some)) in
      by_order n e.0 (λ h. on (λ s. omega arith)) (λ h. omega (arith, ap length (removed_here n e es h))) (λ h. on (λ s. omega arith))
