-- Entries between lower ones and higher ones.
use Rattle.std.proofs.Common.{◌≡◌, ◌≢◌, ℕ, cond, List, [], ◌∷◌, ◌++◌, Some, refl, sym, ap, ◌∙◌, arith}
use Rattle.std.specs.List.Sorted.{IsStrictlySortedBy}
use Rattle.std.specs.Ordering.{nat_cmp}
use Rattle.std.specs.declared.cmp.Ordering.TheVariants.{Less, Equal, Greater}
use Rattle.std.specs.BTreeMap.{insert_entry, is_at}
use Rattle.std.specs.Map.{lookup, remove_entry}
use Rattle.number_map.specs.Blocks.{Ascends, AreBelow, AreAbove}
use Rattle.number_map.proofs.Numbers.{less, equal, greater, by_order}
use Rattle.number_map.proofs.Entries.{ascends_head, ascends_tail, ascends_cons, lookup_on, lookup_above, removed_here, removed_on, remove_above, set_step}

module _ {T : Type 0} where
  -- ---- parts of ascending entries

  pub above_left : (n : ℕ) (xs ys : List (ℕ × T)) → AreAbove n (xs ++ ys) → AreAbove n xs
  above_left n [] ys a = tt
  above_left n (e ∷ xs) ys a = (a.0, above_left n xs ys a.1)

  pub above_right : (n : ℕ) (xs ys : List (ℕ × T)) → AreAbove n (xs ++ ys) → AreAbove n ys
  above_right n [] ys a = a
  above_right n (e ∷ xs) ys a = above_right n xs ys a.1

  pub ascends_left : (xs ys : List (ℕ × T)) → Ascends (xs ++ ys) → Ascends xs
  unfolding IsStrictlySortedBy
  ascends_left [] ys s = tt
  ascends_left (e ∷ xs) ys s =
      ascends_cons e xs (above_left e.0 xs ys (ascends_head e (xs ++ ys) s)) (ascends_left xs ys (ascends_tail e (xs ++ ys) s))

  pub ascends_right : (xs ys : List (ℕ × T)) → Ascends (xs ++ ys) → Ascends ys
  ascends_right [] ys s = s
  ascends_right (e ∷ xs) ys s = ascends_right xs ys (ascends_tail e (xs ++ ys) s)

  -- what comes before an entry is below its number
  pub below_before : (xs ys : List (ℕ × T)) (e : ℕ × T) → Ascends (xs ++ e ∷ ys) → AreBelow e.0 xs
  below_before [] ys e s = tt
  below_before (x ∷ xs) ys e s =
      ((above_right x.0 xs (e ∷ ys) (ascends_head x (xs ++ e ∷ ys) s)).0, below_before xs ys e (ascends_tail x (xs ++ e ∷ ys) s))

  module _ (n : ℕ) where
    -- ---- after lower entries

    pub lookup_after : (xs ys : List (ℕ × T)) → AreBelow n xs → lookup (is_at (nat_cmp n)) (xs ++ ys) ≡ lookup (is_at (nat_cmp n)) ys
    lookup_after [] ys b = refl
    lookup_after (e ∷ xs) ys b = lookup_on n e (xs ++ ys) (λ s. omega (arith, b.0)) ∙ lookup_after xs ys b.1

    pub set_after : (v : T) (xs ys : List (ℕ × T)) → AreBelow n xs → insert_entry nat_cmp (xs ++ ys) n v ≡ xs ++ insert_entry nat_cmp ys n v
    set_after v [] ys b = refl
    set_after v (e ∷ xs) ys b = set_step n v e (xs ++ ys) Greater (greater n e.0 b.0) ∙ ap (λ es. e ∷ es) (set_after v xs ys b.1)

    pub removed_after : (xs ys : List (ℕ × T)) → AreBelow n xs
        → remove_entry (is_at (nat_cmp n)) (xs ++ ys) ≡ xs ++ remove_entry (is_at (nat_cmp n)) ys
    removed_after [] ys b = refl
    removed_after (e ∷ xs) ys b = removed_on n e (xs ++ ys) (λ s. omega (arith, b.0)) ∙ ap (λ es. e ∷ es) (removed_after xs ys b.1)

    -- ---- before higher entries

    pub lookup_before : (xs ys : List (ℕ × T)) → AreAbove n ys → lookup (is_at (nat_cmp n)) (xs ++ ys) ≡ lookup (is_at (nat_cmp n)) xs
    lookup_before [] ys a = lookup_above ys n a
    lookup_before (e ∷ xs) ys a = ap (λ r. cond (is_at (nat_cmp n) e.0) (Some e.1) r) (lookup_before xs ys a)

    pub set_before : (v : T) (xs ys : List (ℕ × T)) → AreAbove n ys → insert_entry nat_cmp (xs ++ ys) n v ≡ insert_entry nat_cmp xs n v ++ ys
    set_before v [] [] a = refl
    set_before v [] (e ∷ ys) a = set_step n v e ys Less (less n e.0 a.0)
    set_before v (e ∷ xs) ys a = by_order n e.0
        (λ h. set_step n v e (xs ++ ys) Less (less n e.0 h) ∙ sym (ap (λ es. es ++ ys) (set_step n v e xs Less (less n e.0 h))))
        (λ h. set_step n v e (xs ++ ys) Equal (equal n e.0 h) ∙ sym (ap (λ es. es ++ ys) (set_step n v e xs Equal (equal n e.0 h))))
        (λ h. set_step n v e (xs ++ ys) Greater (greater n e.0 h) ∙ ap (λ es. e ∷ es) (set_before v xs ys a)
        ∙ sym (ap (λ es. es ++ ys) (set_step n v e xs Greater (greater n e.0 h))))

    pub removed_before : (xs ys : List (ℕ × T)) → AreAbove n ys
        → remove_entry (is_at (nat_cmp n)) (xs ++ ys) ≡ remove_entry (is_at (nat_cmp n)) xs ++ ys
    removed_before [] ys a = remove_above ys n a
    removed_before (e ∷ xs) ys a =
        let on : (n ≢ e.0) → remove_entry (is_at (nat_cmp n)) (e ∷ (xs ++ ys)) ≡ remove_entry (is_at (nat_cmp n)) (e ∷ xs) ++ ys =
        λ h. removed_on n e (xs ++ ys) h ∙ ap (λ es. e ∷ es) (removed_before xs ys a) ∙ sym (ap (λ es. es ++ ys) (removed_on n e xs h)) in
        by_order n e.0 (λ h. on (λ s. omega arith))
        (λ h. removed_here n e (xs ++ ys) h ∙ sym (ap (λ es. es ++ ys) (removed_here n e xs h)))
        (λ h. on (λ s. omega arith))
