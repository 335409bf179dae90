-- What a moment says while the map is edited.
use Rattle.std.proofs.Common.{◌≡◌, ◌≢◌, ◌⊎◌, ℕ, Bool, true, false, [], ◌∷◌, All, Option, Some, None, Bor, inl, inr, refl, sym, ap, subst, ◌∙◌}
use Rattle.std.specs.BTreeMap.{insert_entry, is_at}
use Rattle.std.specs.Map.{lookup}
use Rattle.std.specs.Option.{IfSome, is_some, option_map}
use Rattle.std.specs.Ordering.{nat_cmp}
use Rattle.std.specs.declared.cmp.Ordering.TheVariants.{Less, Equal, Greater}
use Rattle.std.proofs.lemmas.Bool.{cases_eq, false≢true}
use Rattle.std.proofs.lemmas.List.Elements.{All-nil, All-cons, All-head, All-tail}
use Rattle.number_map.proofs.Entries.{ascends_none, ascends_set, set_step}
use Rattle.number_map.proofs.Numbers.{less, equal, greater, by_order}
use Rattle.feature_model.specs.Data.{FeatureData}
use Rattle.feature_store.specs.Inside.{Stored, stored_data}
use Rattle.feature_store.specs.Moments.{Kept, MomentView, AreKept, IsAsOf, had_by, had_at}
use Rattle.feature_store.specs.Store.{FeatureMap, IsMap, feature_at}
use Rattle.feature_store.proofs.Maps.{lookup_set_same}

-- at the moment itself nothing is kept
pub as_of_now : (t : MomentView) (m : FeatureMap) → IsMap m → t.features ≡ m → t.kept ≡ [] → IsAsOf t m
as_of_now t m is_map same none = record {
  is_map = subst IsMap (sym same) is_map;
  kept = subst AreKept (sym none) (record { ascending = ascends_none; own = All-nil (λ e. IfSome e.1 (λ s. s.0 ≡ e.0)) });
  each = λ n there. ap (λ k. feature_at k n) same ∙ ap (λ k. had_at k n (feature_at m n)) (sym none);
}

-- what was found, without where it lies in memory
pub is_found : (o : Option (Bor (Option Stored))) (p : Option (Option Stored)) (b : Bool) → option_map (λ v. v.now) o ≡ p → b ≡ is_some o → is_some p ≡ b
is_found None p b is found = ap is_some (sym is) ∙ sym found
is_found (Some v) p b is found = ap is_some (sym is) ∙ sym found

pub none_found : (p : Option (Option Stored)) → is_some p ≡ false → p ≡ None
none_found None is = refl
none_found (Some x) is = absurd (false≢true (sym is))

-- a number is kept that wasn't
pub had_kept : (kept : Kept) (n : ℕ) (has : Option Stored) (x y : Option FeatureData) → lookup (is_at (nat_cmp n)) kept ≡ None
    → option_map stored_data has ≡ y → had_at (insert_entry nat_cmp kept n has) n x ≡ had_at kept n y
had_kept kept n has x y none is =
    ap (λ o. had_by o x) (lookup_set_same kept n has) ∙ is ∙ ap (λ o. had_by o y) (sym none)

-- what was kept of it is its own
kept_set : (kept : Kept) (n : ℕ) (has : Option Stored) → IfSome has (λ s. s.0 ≡ n) → All (λ e. IfSome e.1 (λ s. s.0 ≡ e.0)) kept
    → All (λ e. IfSome e.1 (λ s. s.0 ≡ e.0)) (insert_entry nat_cmp kept n has)
kept_set [] n has is all = All-cons (λ e. IfSome e.1 (λ s. s.0 ≡ e.0)) (n, has) [] is all
kept_set (e ∷ kept) n has is all =
    let Own : ℕ × Option Stored → Type 0 = λ e. IfSome e.1 (λ s. s.0 ≡ e.0) in
    by_order n e.0
    (λ h. subst (All Own) (sym (set_step n has e kept Less (less n e.0 h))) (All-cons Own (n, has) (e ∷ kept) is all))
    (λ h. subst (All Own) (sym (set_step n has e kept Equal (equal n e.0 h)))
    (All-cons Own (e.0, has) kept (subst (λ k. IfSome has (λ s. s.0 ≡ k)) h is) (All-tail Own e kept all)))
    (λ h. subst (All Own) (sym (set_step n has e kept Greater (greater n e.0 h)))
    (All-cons Own e (insert_entry nat_cmp kept n has) (All-head Own e kept all) (kept_set kept n has is (All-tail Own e kept all))))

pub are_kept : (kept : Kept) (n : ℕ) (has : Option Stored) → IfSome has (λ s. s.0 ≡ n) → AreKept kept → AreKept (insert_entry nat_cmp kept n has)
are_kept kept n has is are = record { ascending = ascends_set kept n has are.ascending; own = kept_set kept n has is are.own }

-- what is lost stays lost, so what isn't wasn't before
still_there : (old new : Bool) → (old ≡ true → new ≡ true) → new ≡ false → old ≡ false
still_there false new on there = refl
still_there true new on there = absurd (false≢true (sym there ∙ on refl))

-- an edit of one number that keeps what the number had
pub as_of_changed : (old new : MomentView) (m k : FeatureMap) (id : ℕ) → new.features ≡ old.features → (old.lost ≡ true → new.lost ≡ true)
    → (new.lost ≡ false → had_at new.kept id (feature_at k id) ≡ had_at old.kept id (feature_at m id))
    → ((n : ℕ) → new.lost ≡ false → n ≢ id → lookup (is_at (nat_cmp n)) new.kept ≡ lookup (is_at (nat_cmp n)) old.kept)
    → (AreKept old.kept → AreKept new.kept)
    → ((n : ℕ) → n ≢ id → feature_at k n ≡ feature_at m n)
    → IsAsOf old m → IsAsOf new k
as_of_changed old new m k id same lost here others kept elsewhere as_of = record {
  is_map = subst IsMap (sym same) as_of.is_map;
  kept = kept as_of.kept;
  each = λ n there. ap (λ f. feature_at f n) same ∙ as_of.each n (still_there old.lost new.lost lost there) ∙ by n there (cases_eq n id);
}
  where
    by : (n : ℕ) → new.lost ≡ false → (n ≡ id) ⊎ (n ≢ id) → had_at old.kept n (feature_at m n) ≡ had_at new.kept n (feature_at k n)
    by n there (inl is) = subst (λ i. had_at old.kept i (feature_at m i) ≡ had_at new.kept i (feature_at k i)) (sym is) (sym (here there))
    by n there (inr differs) =
        ap (λ o. had_by o (feature_at m n)) (sym (others n there differs)) ∙ ap (had_at new.kept n) (sym (elsewhere n differs))
