-- A page of the features in a box: those of the map from an id on, up to a next one, whose bounding boxes meet the box.
use Rattle.std.specs.Prelude.{◌≡◌, ◌<◌, ◌≤◌, ◌-◌, ◌⊎◌, ℕ, List, [], ◌∷◌, length, Option, None}
use Rattle.feature_store.specs.declared.in_box.TheConstants.{BOX_LOOKS}
use Rattle.map_replies.specs.Pages.{Entry, listed}
use Rattle.map_replies.specs.declared.pages.TheConstants.{PAGE_BYTES}

-- how many bytes are left after the texts of entries
abbrev pub left_after : (bytes : ℕ) → List Entry → ℕ
left_after bytes [] = bytes
left_after bytes (e ∷ es) = left_after (bytes - length (listed e)) es

-- some are left before each entry
abbrev pub AreWithin : (bytes : ℕ) → List Entry → Type 0
AreWithin bytes [] = Unit {0}
AreWithin bytes (e ∷ es) = (0 < bytes) × AreWithin (bytes - length (listed e)) es

-- The texts of the entries before the last have fewer than PAGE_BYTES bytes together. The page ends where all have as many, where no feature
-- follows, or after BOX_LOOKS features of the map.
pub record IsBoxPage (looked es : List Entry) (next : Option Entry) : Type 0 where
  pub within : AreWithin PAGE_BYTES es
  pub ends : (left_after PAGE_BYTES es ≡ 0) ⊎ (next ≡ None) ⊎ (BOX_LOOKS ≤ length looked)
