-- What is kept and what is found when a number is set in a map or taken away.
use Rattle.std.proofs.Common.{◌≡◌, ◌≢◌, ℕ, ◌<◌, cond, List, [], ◌∷◌, length, Some, None, refl, sym, ap, subst, ◌∙◌, arith}
use Rattle.std.specs.List.{All}
use Rattle.std.specs.Ordering.{nat_cmp}
use Rattle.std.specs.declared.cmp.Ordering.TheVariants.{Less, Equal, Greater}
use Rattle.std.specs.BTreeMap.{insert_entry, is_at}
use Rattle.std.specs.Map.{lookup, remove_entry}
use Rattle.std.proofs.lemmas.List.Elements.{All-cons, All-head, All-tail}
use Rattle.number_map.specs.Blocks.{Ascends, AreAbove}
use Rattle.number_map.proofs.Numbers.{less, equal, greater, by_order}
use Rattle.number_map.proofs.Entries.{ascends_head, ascends_tail, lookup_here, lookup_on, lookup_above}
use Rattle.number_map.proofs.Entries.{removed_here, removed_on, set_step, ascends_set, ascends_removed}
use Rattle.feature_model.specs.Data.{FeatureData, put}
use Rattle.feature_model.specs.Types.{IsChange}
use Rattle.feature_store.specs.declared.limit.TheConstants.{TEXTS_END}
use Rattle.feature_store.specs.Store.{FeatureMap, IsMap, feature_at, with_feature, without_feature, snapshot}

-- ---- what is kept

pub All-set_entry : (P : ℕ × FeatureData → Type 0) (m : FeatureMap) (id : ℕ) (f : FeatureData) → P (id, f) → All P m → All P (insert_entry nat_cmp m id f)
All-set_entry P [] id f p a = All-cons P (id, f) [] p a
All-set_entry P (e ∷ m) id f p a = by_order id e.0
    (λ h. subst (All P) (sym (set_step id f e m Less (less id e.0 h))) (All-cons P (id, f) (e ∷ m) p a))
    (λ h. subst (All P) (sym (set_step id f e m Equal (equal id e.0 h))) (All-cons P (e.0, f) m (subst (λ k. P (k, f)) h p) (All-tail P e m a)))
    (λ h. subst (All P) (sym (set_step id f e m Greater (greater id e.0 h)))
    (All-cons P e (insert_entry nat_cmp m id f) (All-head P e m a) (All-set_entry P m id f p (All-tail P e m a))))

pub All-removed_entry : (P : ℕ × FeatureData → Type 0) (m : FeatureMap) (id : ℕ) → All P m → All P (remove_entry (is_at (nat_cmp id)) m)
All-removed_entry P [] id a = a
All-removed_entry P (e ∷ m) id a =
    let on : (id ≢ e.0) → All P (remove_entry (is_at (nat_cmp id)) (e ∷ m)) =
    λ h. subst (All P) (sym (removed_on id e m h))
    (All-cons P e (remove_entry (is_at (nat_cmp id)) m) (All-head P e m a) (All-removed_entry P m id (All-tail P e m a))) in
    by_order id e.0 (λ h. on (λ t. omega arith)) (λ h. subst (All P) (sym (removed_here id e m h)) (All-tail P e m a)) (λ h. on (λ t. omega arith))

-- ---- what is found afterwards

module _ {T : Type 0} where
  pub lookup_set_same : (m : List (ℕ × T)) (id : ℕ) (f : T) → lookup (is_at (nat_cmp id)) (insert_entry nat_cmp m id f) ≡ Some f
  lookup_set_same [] id f = lookup_here id (id, f) [] refl
  lookup_set_same (e ∷ m) id f =
      let Q : List (ℕ × T) → Type 0 = λ n. lookup (is_at (nat_cmp id)) n ≡ Some f in
      by_order id e.0
      (λ h. subst Q (sym (set_step id f e m Less (less id e.0 h))) (lookup_here id (id, f) (e ∷ m) refl))
      (λ h. subst Q (sym (set_step id f e m Equal (equal id e.0 h))) (lookup_here id (e.0, f) m h))
      (λ h. subst Q (sym (set_step id f e m Greater (greater id e.0 h)))
      (lookup_on id e (insert_entry nat_cmp m id f) (λ s. omega arith) ∙ lookup_set_same m id f))

  -- one entry more, or another one, changes nothing if both give the same after it
  lookup_past : (n : ℕ) (e : ℕ × T) (m k : List (ℕ × T)) → lookup (is_at (nat_cmp n)) m ≡ lookup (is_at (nat_cmp n)) k
      → lookup (is_at (nat_cmp n)) (e ∷ m) ≡ lookup (is_at (nat_cmp n)) (e ∷ k)
  lookup_past n e m k h = ap (λ v. cond (is_at (nat_cmp n) e.0) (Some e.1) v) h

  pub lookup_set_other : (m : List (ℕ × T)) (id : ℕ) (f : T) (n : ℕ) → n ≢ id
      → lookup (is_at (nat_cmp n)) (insert_entry nat_cmp m id f) ≡ lookup (is_at (nat_cmp n)) m
  lookup_set_other [] id f n d = lookup_on n (id, f) [] d
  lookup_set_other (e ∷ m) id f n d =
      let Q : List (ℕ × T) → Type 0 = λ k. lookup (is_at (nat_cmp n)) k ≡ lookup (is_at (nat_cmp n)) (e ∷ m) in
      by_order id e.0
      (λ h. subst Q (sym (set_step id f e m Less (less id e.0 h))) (lookup_on n (id, f) (e ∷ m) d))
      (λ h. subst Q (sym (set_step id f e m Equal (equal id e.0 h))) (lookup_on n (e.0, f) m (λ s. d (s ∙ sym h)) ∙ sym (lookup_on n e m (λ s. d (s ∙ sym h)))))
      (λ h. subst Q (sym (set_step id f e m Greater (greater id e.0 h)))
      (lookup_past n e (insert_entry nat_cmp m id f) m (lookup_set_other m id f n d)))

pub lookup_removed_same : (m : FeatureMap) (id : ℕ) → Ascends m → lookup (is_at (nat_cmp id)) (remove_entry (is_at (nat_cmp id)) m) ≡ None
lookup_removed_same [] id s = refl
lookup_removed_same (e ∷ m) id s =
    let Q : FeatureMap → Type 0 = λ n. lookup (is_at (nat_cmp id)) n ≡ None in
    let on : (id ≢ e.0) → Q (remove_entry (is_at (nat_cmp id)) (e ∷ m)) =
    λ h. subst Q (sym (removed_on id e m h)) (lookup_on id e (remove_entry (is_at (nat_cmp id)) m) h ∙ lookup_removed_same m id (ascends_tail e m s)) in
    by_order id e.0 (λ h. on (λ t. omega arith))
    (λ h. subst Q (sym (removed_here id e m h)) (lookup_above m id (subst (λ k. AreAbove k m) (sym h) (ascends_head e m s))))
    (λ h. on (λ t. omega arith))

pub lookup_removed_other : (m : FeatureMap) (id n : ℕ) → n ≢ id
    → lookup (is_at (nat_cmp n)) (remove_entry (is_at (nat_cmp id)) m) ≡ lookup (is_at (nat_cmp n)) m
lookup_removed_other [] id n d = refl
lookup_removed_other (e ∷ m) id n d =
    let Q : FeatureMap → Type 0 = λ k. lookup (is_at (nat_cmp n)) k ≡ lookup (is_at (nat_cmp n)) (e ∷ m) in
    let on : (id ≢ e.0) → Q (remove_entry (is_at (nat_cmp id)) (e ∷ m)) =
    λ h. subst Q (sym (removed_on id e m h)) (lookup_past n e (remove_entry (is_at (nat_cmp id)) m) m (lookup_removed_other m id n d)) in
    by_order id e.0 (λ h. on (λ t. omega arith)) (λ h. subst Q (sym (removed_here id e m h)) (sym (lookup_on n e m (λ s. d (s ∙ sym h)))))
    (λ h. on (λ t. omega arith))

-- ---- the words of the store

-- a feature is set, and the texts are short together then
pub IsMap-with_feature : (m : FeatureMap) (id : ℕ) (f : FeatureData) → IsMap m → IsChange (put id f) → length (snapshot (with_feature m id f)) < TEXTS_END
    → IsMap (with_feature m id f)
unfolding with_feature
IsMap-with_feature m id f is_map edit short = record {
  ascending = ascends_set m id f is_map.ascending;
  edits = All-set_entry (λ e. IsChange (put e.0 e.1)) m id f edit is_map.edits;
  short = short;
}

pub IsMap-without_feature : (m : FeatureMap) (id : ℕ) → IsMap m → length (snapshot (without_feature m id)) < TEXTS_END → IsMap (without_feature m id)
unfolding without_feature
IsMap-without_feature m id is_map short = record {
  ascending = ascends_removed m id is_map.ascending;
  edits = All-removed_entry (λ e. IsChange (put e.0 e.1)) m id is_map.edits;
  short = short;
}

pub feature_at-with_same : (m : FeatureMap) (id : ℕ) (f : FeatureData) → feature_at (with_feature m id f) id ≡ Some f
unfolding feature_at with_feature
feature_at-with_same m id f = lookup_set_same m id f

pub feature_at-with_other : (m : FeatureMap) (id : ℕ) (f : FeatureData) (n : ℕ) → n ≢ id → feature_at (with_feature m id f) n ≡ feature_at m n
unfolding feature_at with_feature
feature_at-with_other m id f n d = lookup_set_other m id f n d

pub feature_at-without_same : (m : FeatureMap) (id : ℕ) → Ascends m → feature_at (without_feature m id) id ≡ None
unfolding feature_at without_feature
feature_at-without_same m id s = lookup_removed_same m id s

pub feature_at-without_other : (m : FeatureMap) (id n : ℕ) → n ≢ id → feature_at (without_feature m id) n ≡ feature_at m n
unfolding feature_at without_feature
feature_at-without_other m id n d = lookup_removed_other m id n d
