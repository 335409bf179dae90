-- The features of a map are within the limits.
use Rattle.std.proofs.Common.{◌≡◌, ⊎_elim, ℕ, Bool, false, true, cond, [], ◌∷◌, sym, subst, arith, Some}
use Rattle.std.specs.Prelude.{nat_le, IfSome}
use Rattle.std.specs.List.{All}
use Rattle.std.specs.Ordering.{nat_cmp}
use Rattle.std.specs.BTreeMap.{is_at}
use Rattle.std.specs.Map.{lookup}
use Rattle.std.proofs.lemmas.Bool.{cases_eq}
use Rattle.std.proofs.lemmas.Bool.Decides.{nat_tests}
use Rattle.std.proofs.lemmas.List.Elements.{All-head, All-tail}
use Rattle.number_map.specs.Blocks.{first_from}
use Rattle.feature_model.specs.Data.{put}
use Rattle.feature_model.specs.Limits.{IsAllowed}
use Rattle.feature_model.specs.Types.{IsChange}
use Rattle.feature_store.specs.Store.{FeatureMap, IsMap, feature_at, feature_from}

at_other : (id other : ℕ) → (id ≡ other → ⊥) → is_at (nat_cmp id) other ≡ false
at_other id other apart = grind (arith, nat_tests)

at_same : (id other : ℕ) → id ≡ other → is_at (nat_cmp id) other ≡ true
at_same id other same = grind (arith, nat_tests)

looked_up : (m : FeatureMap) (id : ℕ) → All (λ e. IsChange (put e.0 e.1)) m → IfSome (lookup (is_at (nat_cmp id)) m) (IsAllowed id)
looked_up [] id edits = tt
looked_up (e ∷ m) id edits =
    let holds : Bool → Type 0 = λ b. IfSome (cond b (Some e.1) (lookup (is_at (nat_cmp id)) m)) (IsAllowed id) in
    ⊎_elim
    (λ (same : id ≡ e.0). subst holds (sym (at_same id e.0 same))
    (subst (λ (n : ℕ). IsAllowed n e.1) (sym same) (All-head (λ e. IsChange (put e.0 e.1)) e m edits).0))
    (λ (apart : id ≡ e.0 → ⊥). subst holds (sym (at_other id e.0 apart))
    (looked_up m id (All-tail (λ e. IsChange (put e.0 e.1)) e m edits)))
    (cases_eq id e.0)

-- the feature of an id is within the limits
pub allowed_there : (m : FeatureMap) (id : ℕ) → IsMap m → IfSome (feature_at m id) (IsAllowed id)
unfolding feature_at
allowed_there m id is_map = looked_up m id is_map.edits

found_from : (m : FeatureMap) (id : ℕ) → All (λ e. IsChange (put e.0 e.1)) m → IfSome (first_from id m) (λ e. IsAllowed e.0 e.1)
found_from [] id edits = tt
found_from (e ∷ m) id edits =
    either (nat_le id e.0) (All-head (λ e. IsChange (put e.0 e.1)) e m edits).0
    (found_from m id (All-tail (λ e. IsChange (put e.0 e.1)) e m edits))
  where
    either : (b : Bool) → IsAllowed e.0 e.1 → IfSome (first_from id m) (λ e. IsAllowed e.0 e.1)
        → IfSome (cond b (Some e) (first_from id m)) (λ e. IsAllowed e.0 e.1)
    either true here behind = here
    either false here behind = behind

-- so is the first one from a number on
pub allowed_from : (m : FeatureMap) (id : ℕ) → IsMap m → IfSome (feature_from m id) (λ e. IsAllowed e.0 e.1)
unfolding feature_from
allowed_from m id is_map = found_from m id is_map.edits
