-- Edits as records have them, by the version of the record's form.
use Rattle.std.specs.Prelude.{◌≡◌, ◌⊎◌, ◌==◌, if◌then◌else◌, ℕ, List, length}
use Rattle.feature_model.specs.declared.limits.TheConstants.{MAX_EDIT_BYTES}
use Rattle.feature_model.specs.Data.{EditData}
use Rattle.feature_model.specs.Spelled.{spelled_changes, spelled}
use Rattle.feature_model.specs.Types.{IsEdit}
use Rattle.edit_text.specs.Reading.{edit_most}

-- an edit, and the version of its record
pub record RecordedEdit : Type 0 where
  pub version : ℕ
  pub changes : EditData

-- the text of its record: in version 1 that of its one change, in version 2 that of the edit
abbrev pub text_in : ℕ → EditData → List ℕ
text_in version cs = if version == 1 then spelled_changes cs else spelled cs

abbrev pub recorded_text : RecordedEdit → List ℕ
recorded_text e = text_in e.version e.changes

-- the most bytes of such a text
abbrev pub most_in : ℕ → ℕ
most_in version = if version == 1 then MAX_EDIT_BYTES else edit_most

-- the versions of records
abbrev pub IsRecordVersion : ℕ → Type 0
IsRecordVersion version = (version ≡ 1) ⊎ (version ≡ 2)

-- a record of the version can have an edit of this count of changes: one in version 1
pub record FitsVersion (version : ℕ) (cs : EditData) : Type 0 where
  pub is : IsRecordVersion version
  pub one : version ≡ 1 → length cs ≡ 1

-- an edit within the limits that a record of its version can have
pub record IsRecorded (e : RecordedEdit) : Type 0 where
  pub fits : FitsVersion e.version e.changes
  pub edit : IsEdit e.changes

-- the record of this version and this text is that of the edit
pub record IsRecordOf (version : ℕ) (cs : EditData) (text : List ℕ) : Type 0 where
  pub fits : FitsVersion version cs
  pub edit : IsEdit cs
  pub text_is : text ≡ text_in version cs
