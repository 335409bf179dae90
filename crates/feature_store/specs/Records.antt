-- The texts of records, by their changes.
use Rattle.std.specs.Prelude.{◌≡◌, ◌==◌, if◌then◌else◌, ℕ, List, [], ◌∷◌, ◌++◌, length, All}
use Rattle.feature_model.specs.Data.{ChangeData, EditData, number_of}
use Rattle.feature_model.specs.Limits.{IsNew, AreDistinct}
use Rattle.feature_model.specs.Spelled.{spelled_changes}
use Rattle.feature_model.specs.Types.{IsChange}
use Rattle.edit_text.specs.Decoding.{BeginsWithChange}
use Rattle.edit_text.specs.Recorded.{IsRecordVersion}

-- what a record has before its changes: nothing in version 1, else their count
abbrev pub count_in : ℕ → ℕ → List ℕ
count_in version count = if version == 1 then [] else count ∷ []

-- the text of a record is this count and the texts of changes; version 1 has one
pub record IsCounted (version count : ℕ) (texts text : List ℕ) : Type 0 where
  pub version_is : IsRecordVersion version
  pub one : version ≡ 1 → count ≡ 1
  pub text_is : text ≡ count_in version count ++ texts

-- these are the texts of `count` changes, each of a number of its own
pub record AreTexts (count : ℕ) (cs : EditData) (texts : List ℕ) : Type 0 where
  pub count_is : length cs ≡ count
  pub changes : All IsChange cs
  pub distinct : AreDistinct cs
  pub text_is : texts ≡ spelled_changes cs

-- no change is at the start whose number these don't have
abbrev pub HasNoNext : EditData → List ℕ → Type 0
HasNoNext done bytes = (c : ChangeData) → BeginsWithChange c bytes → IsNew done (number_of c) → ⊥
