-- What meets a box of the world, whatever its zooms.
use Rattle.std.specs.Prelude.{◌≡◌, ◌<◌, ◌≤◌, ◌+◌, ◌++◌, ℕ, Bool, ◌&&◌, nat_le, List, length, map, filter, Option, Some, None}
use Rattle.feature_model.specs.declared.feature.WorldBox.{WorldBox}
use Rattle.box_index.specs.declared.entry.IndexEntry.{IndexEntry}
use Rattle.box_index.specs.Shown.{meets}

-- whether an entry has this id or a greater one, and its box meets this one
abbrev pub is_met : WorldBox → (from : ℕ) → IndexEntry → Bool
is_met bounds from e = nat_le from e.id && meets e.span.bounds bounds

-- the ids of those that do
abbrev pub ids_met : WorldBox → (from : ℕ) → List IndexEntry → List ℕ
ids_met bounds from es = map (λ e. e.id) (filter (is_met bounds from) es)

-- The ids of the entries are appended, where so many entries may be looked at and some of these are left; or the entries are more.
abbrev pub AreAdded : WorldBox → (from : ℕ) → List IndexEntry → (left : ℕ) → (old new : List ℕ) → (rest : Option ℕ) → Type 0
AreAdded bounds from es left old new None = left < length es
AreAdded bounds from es left old new (Some rest) =
    (new ≡ old ++ ids_met bounds from es) × (length new + rest ≤ length old + left) × (left ≤ rest + length es)
