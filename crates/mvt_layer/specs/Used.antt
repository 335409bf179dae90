-- Key indices that were used.
use Rattle.std.specs.Prelude.{◌≡◌, ℕ, Bool, true, ◌==◌, ◌||◌, if◌then◌else◌}
use Rattle.std.specs.Ordering.{nat_cmp}
use Rattle.std.specs.BTreeSet.{contains}
use Rattle.mvt_layer.specs.declared.used_keys.UsedKeys.{UsedKeys}
use Rattle.mvt_layer.specs.Reading.{has_number}

abbrev pub uses : UsedKeys → ℕ → Bool
uses u k = has_number u.few.items k || contains nat_cmp u.many k

-- one more is used, and else the same are
abbrev pub UsesMore : UsedKeys → UsedKeys → ℕ → Type 0
UsesMore old new key = (q : ℕ) → uses new q ≡ (if key == q then true else uses old q)
