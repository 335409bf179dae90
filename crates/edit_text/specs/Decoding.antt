-- Changes and edits at the start of bytes.
use Rattle.std.specs.Prelude.{◌≡◌, ℕ, ◌<◌, List, [], ◌∷◌, ◌++◌, length}
use Rattle.feature_model.specs.declared.limits.TheConstants.{MAX_EDIT_BYTES}
use Rattle.feature_model.specs.declared.kinds.TheConstants.{PUT_KIND}
use Rattle.feature_model.specs.Data.{ChangeData, EditData}
use Rattle.feature_model.specs.Limits.{AreEnough}
use Rattle.feature_model.specs.Spelled.{spelled_change, spelled}
use Rattle.feature_model.specs.Types.{IsChange, IsEdit}
use Rattle.edit_text.specs.Cut.{EndsInChange, EndsInEdit}
use Rattle.edit_text.specs.Reading.{edit_most}

-- The bytes begin with the text of this.
abbrev pub Begins : {A : Type 0} → (A → List ℕ) → (A → Type 0) → A → List ℕ → Type 0
Begins spell Is x bytes = Is x × ((rest : List ℕ) × (bytes ≡ spell x ++ rest))

-- They begin with the text of this change, or of this edit.
abbrev pub BeginsWithChange : ChangeData → List ℕ → Type 0
BeginsWithChange c bytes = Begins spelled_change IsChange c bytes

abbrev pub BeginsWith : EditData → List ℕ → Type 0
BeginsWith e bytes = Begins spelled IsEdit e bytes

-- The bytes begin as the text of a change does that sets a feature.
abbrev pub BeginsAsPut : List ℕ → Type 0
BeginsAsPut bytes = (rest : List ℕ) × (bytes ≡ PUT_KIND ∷ rest)

-- The bytes begin as the text of an edit does: with a count of changes.
abbrev pub BeginsAsEdit : List ℕ → Type 0
BeginsAsEdit bytes = (count : ℕ) × (rest : List ℕ) × (bytes ≡ count ∷ rest) × AreEnough count

-- They are shorter than the longest text, and end before the text does, and each whole field is allowed.
abbrev pub IsCutChange : List ℕ → Type 0
IsCutChange bytes = (length bytes < MAX_EDIT_BYTES) × EndsInChange [] bytes

abbrev pub IsCut : List ℕ → Type 0
IsCut bytes = (length bytes < edit_most) × EndsInEdit bytes
