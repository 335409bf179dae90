-- Sums over the entries of a map, once a number is set or taken away.
use Rattle.std.proofs.Common.{◌≡◌, ◌≢◌, ℕ, ◌+◌, [], ◌∷◌, Some, None, inl, inr, refl, sym, ap, ◌∙◌, arith}
use Rattle.std.specs.List.{sum_by}
use Rattle.std.specs.Ordering.{nat_cmp}
use Rattle.std.specs.declared.cmp.Ordering.TheVariants.{Less, Equal, Greater}
use Rattle.std.specs.BTreeMap.{insert_entry, is_at}
use Rattle.std.specs.Map.{lookup, remove_entry}
use Rattle.std.proofs.lemmas.Bool.{cases_eq}
use Rattle.std.proofs.lemmas.List.Sums.{sum_by-cons}
use Rattle.number_map.specs.Blocks.{Ascends}
use Rattle.number_map.proofs.Numbers.{less, equal, greater, by_order}
use Rattle.number_map.proofs.Entries.{ascends_head, ascends_tail, raised, lookup_here, lookup_on, removed_here, removed_on, remove_above, set_step}
use Rattle.feature_model.specs.Data.{FeatureData}
use Rattle.feature_store.specs.Store.{FeatureMap}

module _ (f : ℕ × FeatureData → ℕ) where
  abbrev total : FeatureMap → ℕ
  total m = sum_by f m

  total_on : (e : ℕ × FeatureData) (m : FeatureMap) → total (e ∷ m) ≡ f e + total m
  total_on e m = sum_by-cons f e m

  pub total_without : (m : FeatureMap) (id : ℕ) (v : FeatureData) → lookup (is_at (nat_cmp id)) m ≡ Some v
      → sum_by f m ≡ f (id, v) + sum_by f (remove_entry (is_at (nat_cmp id)) m)
  total_without [] id v h = cc
  total_without (e ∷ m) id v h = elim (cases_eq id e.0) [
    | inl here ↦
        let found : Some e.1 ≡ Some v = sym (lookup_here id e m here) ∙ h in
        let value : e.1 ≡ v = cc in
        let is : f e ≡ f (id, v) = λ i. f (sym here i, value i) in
        omega (arith, total_on e m, is, ap total (removed_here id e m here))
    | inr differs ↦
        omega (
          arith,
          total_on e m,
          total_without m id v (sym (lookup_on id e m differs) ∙ h),
          ap total (removed_on id e m differs),
          total_on e (remove_entry (is_at (nat_cmp id)) m),
        )
  ]

  pub total_with : (m : FeatureMap) (id : ℕ) (v : FeatureData) → Ascends m
      → sum_by f (insert_entry nat_cmp m id v) ≡ f (id, v) + sum_by f (remove_entry (is_at (nat_cmp id)) m)
  total_with [] id v up = total_on (id, v) []
  total_with (e ∷ m) id v up = by_order id e.0
      (λ h.
      let past = remove_above (e ∷ m) id (h, raised m id e.0 (omega (arith, h)) (ascends_head e m up)) in
      omega (arith, ap total (set_step id v e m Less (less id e.0 h)), total_on (id, v) (e ∷ m), ap total past))
      (λ h.
      let is : f (e.0, v) ≡ f (id, v) = ap (λ n. f (n, v)) (sym h) in
      omega (arith, ap total (set_step id v e m Equal (equal id e.0 h)), total_on (e.0, v) m, is, ap total (removed_here id e m h)))
      (λ h.
      let differs : id ≢ e.0 = λ s. omega arith in
      omega (
        arith,
        ap total (set_step id v e m Greater (greater id e.0 h)),
        total_on e (insert_entry nat_cmp m id v),
        total_with m id v (ascends_tail e m up),
        ap total (removed_on id e m differs),
        total_on e (remove_entry (is_at (nat_cmp id)) m),
      ))

-- a number without a feature has none to be taken away
pub removed_none : (m : FeatureMap) (id : ℕ) → lookup (is_at (nat_cmp id)) m ≡ None → remove_entry (is_at (nat_cmp id)) m ≡ m
removed_none [] id h = refl
removed_none (e ∷ m) id h = elim (cases_eq id e.0) [
  | inl here ↦ let found : Some e.1 ≡ None = sym (lookup_here id e m here) ∙ h in cc
  | inr differs ↦ removed_on id e m differs ∙ ap (λ r. e ∷ r) (removed_none m id (sym (lookup_on id e m differs) ∙ h))
]
