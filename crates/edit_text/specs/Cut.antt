-- Bytes that end before the text of a change or of an edit does, where each field that is whole is allowed.
use Rattle.std.specs.Prelude.{◌≡◌, ℕ, ◌<◌, ◌≤◌, ◌⊎◌, List, [], ◌∷◌, ◌++◌, length, All}
use Rattle.std.specs.Ordering.{nat_cmp}
use Rattle.std.specs.Cmp.Lexicographic.{slice_cmp}
use Rattle.std.specs.List.{flat_map}
use Rattle.std.specs.List.Sorted.{IsStrictlySortedBy}
use Rattle.std.specs.Str.{IsUtf8}
use Rattle.feature_model.specs.declared.limits.TheConstants.{MAX_ZOOM, MAX_NAME_BYTES, MIN_LINE, MIN_RING, MAX_TAGS, MAX_TEXT_BYTES}
use Rattle.feature_model.specs.declared.feature.World.{World}
use Rattle.feature_model.specs.declared.kinds.TheConstants.{POINTS_KIND, LINES_KIND, POLYGONS_KIND, TEXT_KIND, NATURAL_KIND, NEGATIVE_KIND}
use Rattle.feature_model.specs.declared.kinds.TheConstants.{PUT_KIND, DELETE_KIND}
use Rattle.feature_model.specs.Data.{TagData, ChangeData}
use Rattle.feature_model.specs.Limits.{IsName, IsCount, AreZooms, CountFits, NumberFits, GeometryFits, ValueFits, HasAscendingKeys, keys_of}
use Rattle.feature_model.specs.Limits.{AreEnough, IsNew, AreDistinct, ChangeFits}
use Rattle.feature_model.specs.Spelled.{two_bytes, eight_bytes, spelled_list, spelled_point, spelled_line, spelled_geometry}
use Rattle.feature_model.specs.Spelled.{spelled_name, spelled_tag, spelled_change}
use Rattle.feature_model.specs.Types.{IsOfWorld, LiesInWorld, TagFitsTypes, ChangeFitsTypes}

-- ---- ends

-- The bytes end inside a field of `len` bytes.
abbrev pub EndsWithin : ℕ → List ℕ → Type 0
EndsWithin len bytes = length bytes < len

-- They have a whole first part, which is allowed, and end inside what comes after it.
abbrev pub EndsBehind : {A : Type 0} → (A → List ℕ) → (A → Type 0) → (A → List ℕ → Type 0) → List ℕ → Type 0
EndsBehind {A} spell Is Ends bytes = (x : A) × (rest : List ℕ) × Is x × (bytes ≡ spell x ++ rest) × Ends x rest

-- The first part is one byte.
abbrev pub one_byte : ℕ → List ℕ
one_byte b = b ∷ []

-- The first part is this kind.
abbrev pub EndsBehindKind : ℕ → (List ℕ → Type 0) → List ℕ → Type 0
EndsBehindKind kind Ends bytes = (rest : List ℕ) × (bytes ≡ kind ∷ rest) × Ends rest

-- They have fewer than `count` whole parts, which are allowed together, and end inside the next.
abbrev pub EndsAmong : {A : Type 0} → (A → List ℕ) → (List A → Type 0) → (List A → List ℕ → Type 0) → ℕ → List ℕ → Type 0
EndsAmong {A} spell Are Ends count bytes = (xs : List A) × (rest : List ℕ) × (length xs < count) × Are xs × (bytes ≡ flat_map spell xs ++ rest) × Ends xs rest

-- ---- names and texts

abbrev pub EndsInName : List ℕ → Type 0
EndsInName bytes = EndsWithin 1 bytes ⊎ EndsBehind one_byte (λ len. (1 ≤ len) × (len ≤ MAX_NAME_BYTES)) EndsWithin bytes

abbrev pub EndsInText : List ℕ → Type 0
EndsInText bytes = EndsWithin 2 bytes ⊎ EndsBehind two_bytes (λ len. len ≤ MAX_TEXT_BYTES) EndsWithin bytes

-- ---- geometry

-- inside a count or one of the things counted
abbrev pub EndsInList : {A : Type 0} → ℕ → (A → List ℕ) → (A → Type 0) → (List ℕ → Type 0) → List ℕ → Type 0
EndsInList least spell Is Ends bytes =
    EndsWithin 2 bytes ⊎ EndsBehind two_bytes (IsCount least) (EndsAmong spell (All Is) (λ _. Ends)) bytes

-- inside a list of at least `least` points
abbrev pub EndsInLine : ℕ → List ℕ → Type 0
EndsInLine least bytes = EndsInList least spelled_point IsOfWorld (EndsWithin 8) bytes

abbrev pub IsLine : ℕ → List World → Type 0
IsLine least points = CountFits least points × All IsOfWorld points

abbrev pub EndsInRings : List ℕ → Type 0
EndsInRings bytes = EndsInList 1 spelled_line (IsLine MIN_RING) (EndsInLine MIN_RING) bytes

abbrev pub IsPolygon : List (List World) → Type 0
IsPolygon rings = CountFits 1 rings × All (IsLine MIN_RING) rings

abbrev pub EndsInGeometry : List ℕ → Type 0
EndsInGeometry bytes = EndsWithin 1 bytes
    ⊎ EndsBehindKind POINTS_KIND (EndsInLine 1) bytes
    ⊎ EndsBehindKind LINES_KIND (EndsInList 1 spelled_line (IsLine MIN_LINE) (EndsInLine MIN_LINE)) bytes
    ⊎ EndsBehindKind POLYGONS_KIND (EndsInList 1 (spelled_list spelled_line) IsPolygon EndsInRings) bytes

-- ---- tags

abbrev pub EndsInValue : List ℕ → Type 0
EndsInValue bytes = EndsWithin 1 bytes
    ⊎ EndsBehindKind TEXT_KIND EndsInText bytes
    ⊎ EndsBehindKind NATURAL_KIND (EndsWithin 8) bytes
    ⊎ EndsBehindKind NEGATIVE_KIND (EndsWithin 8) bytes

-- a key that may follow these tags
abbrev pub IsNextKey : List TagData → List ℕ → Type 0
IsNextKey tags key = IsName key × IsUtf8 key × IsStrictlySortedBy (slice_cmp nat_cmp) (keys_of tags ++ key ∷ [])

-- inside the tag after these
abbrev pub EndsInTag : List TagData → List ℕ → Type 0
EndsInTag tags bytes = EndsInName bytes ⊎ EndsBehind spelled_name (IsNextKey tags) (λ _. EndsInValue) bytes

abbrev pub AreTags : List TagData → Type 0
AreTags tags = All (λ t. IsName t.key × ValueFits t.value × TagFitsTypes t) tags × HasAscendingKeys tags

abbrev pub EndsInTags : List ℕ → Type 0
EndsInTags bytes = EndsWithin 1 bytes ⊎ EndsBehind one_byte (λ count. count ≤ MAX_TAGS) (EndsAmong spelled_tag AreTags EndsInTag) bytes

-- ---- features, changes and edits

abbrev pub EndsInZooms : List ℕ → Type 0
EndsInZooms bytes = EndsWithin 1 bytes ⊎ EndsBehind one_byte (λ zoom. zoom ≤ MAX_ZOOM) (λ _. EndsWithin 1) bytes

-- after the zooms
abbrev pub EndsInShape : List ℕ → Type 0
EndsInShape bytes = EndsInGeometry bytes ⊎ EndsBehind spelled_geometry (λ g. GeometryFits g × LiesInWorld g) (λ _. EndsInTags) bytes

-- after the layer
abbrev pub EndsInBody : List ℕ → Type 0
EndsInBody bytes = EndsInZooms bytes
    ⊎ EndsBehind (λ zooms. zooms.0 ∷ zooms.1 ∷ []) (λ zooms. AreZooms zooms.0 zooms.1) (λ (zooms : ℕ × ℕ). EndsInShape) bytes

abbrev pub EndsInFeature : List ℕ → Type 0
EndsInFeature bytes = EndsInName bytes ⊎ EndsBehind spelled_name (λ layer. IsName layer × IsUtf8 layer) (λ _. EndsInBody) bytes

-- the number of a change after these
abbrev pub IsNextNumber : List ChangeData → ℕ → Type 0
IsNextNumber done id = NumberFits id × IsNew done id

-- inside a change after these, where it sets a feature
abbrev pub EndsInPut : List ChangeData → List ℕ → Type 0
EndsInPut done bytes = EndsWithin 8 bytes ⊎ EndsBehind eight_bytes (IsNextNumber done) (λ _. EndsInFeature) bytes

-- inside the change after these
abbrev pub EndsInChange : List ChangeData → List ℕ → Type 0
EndsInChange done bytes = EndsWithin 1 bytes ⊎ EndsBehindKind PUT_KIND (EndsInPut done) bytes ⊎ EndsBehindKind DELETE_KIND (EndsWithin 8) bytes

abbrev pub AreChanges : List ChangeData → Type 0
AreChanges cs = All (λ c. ChangeFits c × ChangeFitsTypes c) cs × AreDistinct cs

abbrev pub EndsInEdit : List ℕ → Type 0
EndsInEdit bytes = EndsWithin 1 bytes ⊎ EndsBehind one_byte AreEnough (EndsAmong spelled_change AreChanges EndsInChange) bytes
