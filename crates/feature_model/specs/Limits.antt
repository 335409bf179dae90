-- The limits of a feature and its number, one for each fault, in the order in which faults are returned.
use Rattle.std.specs.Prelude.{◌≡◌, ◌≢◌, ℕ, pos, ◌&&◌, Bool, nat_le, ◌<◌, ◌≤◌, ◌<ℤ◌, List, length, get_or, map, take, All}
use Rattle.std.specs.Ordering.{nat_cmp}
use Rattle.std.specs.Cmp.Lexicographic.{slice_cmp}
use Rattle.std.specs.List.Sorted.{IsStrictlySortedBy}
use Rattle.feature_model.specs.declared.feature.World.{World}
use Rattle.feature_model.specs.declared.limits.TheConstants.{NUMBER_END, MAX_ZOOM, MAX_NAME_BYTES, MAX_ELEMENTS}
use Rattle.feature_model.specs.declared.limits.TheConstants.{MIN_LINE, MIN_RING, MAX_TAGS, MAX_TEXT_BYTES, MAX_EDIT_BYTES, MAX_CHANGES}
use Rattle.feature_model.specs.declared.fault.EditFault.{EditFault}
use Rattle.feature_model.specs.declared.fault.EditFault.TheVariants as faults
use Rattle.feature_model.specs.Data.{GeometryData, world_points, world_lines, world_polygons, ValueData, text_value, natural_value}
use Rattle.feature_model.specs.Data.{negative_value, truth_value, TagData, FeatureData, ChangeData, put, delete, EditData, number_of}
use Rattle.feature_model.specs.Spelled.{spelled_change, spelled_changes}

-- a name has a byte, and not too many
abbrev pub IsName : List ℕ → Type 0
IsName bytes = (1 ≤ length bytes) × (length bytes ≤ MAX_NAME_BYTES)

-- a count is at least this number, and not too great
abbrev pub IsCount : ℕ → ℕ → Type 0
IsCount least count = (least ≤ count) × (count ≤ MAX_ELEMENTS)

-- the same, as a test
abbrev pub is_count : ℕ → ℕ → Bool
is_count least count = nat_le least count && nat_le count MAX_ELEMENTS

-- a list has enough, and not too many
abbrev pub CountFits : {A : Type 0} → ℕ → List A → Type 0
CountFits least xs = IsCount least (length xs)

-- a polygon has a ring, and each ring enough points
abbrev pub RingsFit : List (List World) → Type 0
RingsFit rings = CountFits 1 rings × All (CountFits MIN_RING) rings

-- the first zoom is not above the last, and this is one of the map
abbrev pub AreZooms : ℕ → ℕ → Type 0
AreZooms first last = (first ≤ last) × (last ≤ MAX_ZOOM)

-- a tag's text is short
abbrev pub IsTagText : List ℕ → Type 0
IsTagText bytes = length bytes ≤ MAX_TEXT_BYTES

-- ---- the limits

abbrev pub NumberFits : ℕ → Type 0
NumberFits id = id < NUMBER_END

abbrev pub LayerFits : FeatureData → Type 0
LayerFits f = IsName f.layer

abbrev pub ZoomsFit : FeatureData → Type 0
ZoomsFit f = AreZooms f.minzoom f.maxzoom

abbrev pub GeometryFits : GeometryData → Type 0
GeometryFits (world_points points) = CountFits 1 points
GeometryFits (world_lines lines) = CountFits 1 lines × All (CountFits MIN_LINE) lines
GeometryFits (world_polygons polygons) = CountFits 1 polygons × All RingsFit polygons

-- the keys of tags, in their order
abbrev pub keys_of : List TagData → List (List ℕ)
keys_of tags = map (λ t. t.key) tags

-- each key comes before the next, byte by byte
abbrev pub HasAscendingKeys : List TagData → Type 0
HasAscendingKeys tags = IsStrictlySortedBy (slice_cmp nat_cmp) (keys_of tags)

pub record TagsFit (tags : List TagData) : Type 0 where
  pub few : length tags ≤ MAX_TAGS
  pub names : All IsName (keys_of tags)
  pub ascending : HasAscendingKeys tags

-- a text is short, and what is said to be negative is below 0
abbrev pub ValueFits : ValueData → Type 0
ValueFits (text_value bytes) = IsTagText bytes
ValueFits (natural_value n) = Unit {0}
ValueFits (negative_value z) = z <ℤ pos 0
ValueFits (truth_value b) = Unit {0}

abbrev pub ValuesFit : List TagData → Type 0
ValuesFit tags = All (λ t. ValueFits t.value) tags

-- the text that sets the number's feature is short
abbrev pub TextFits : ℕ → FeatureData → Type 0
TextFits id f = length (spelled_change (put id f)) ≤ MAX_EDIT_BYTES

-- ---- all of them

-- a feature's own limits
pub record FeatureFits (f : FeatureData) : Type 0 where
  pub layer : LayerFits f
  pub zooms : ZoomsFit f
  pub geometry : GeometryFits f.geometry
  pub tags : TagsFit f.tags
  pub values : ValuesFit f.tags

-- a feature of this number keeps to its own limits, and its text is short
pub record IsAllowed (id : ℕ) (f : FeatureData) : Type 0 where
  pub number : NumberFits id
  pub feature : FeatureFits f
  pub text : TextFits id f

-- a change within the limits
abbrev pub IsAllowedChange : ChangeData → Type 0
IsAllowedChange (put id f) = IsAllowed id f
IsAllowedChange (delete id) = NumberFits id

-- the fault's limit is broken, and those before it are kept
abbrev pub IsFirstFault : ℕ → FeatureData → EditFault → Type 0
IsFirstFault id f faults.Number = ¬ NumberFits id
IsFirstFault id f faults.Layer = NumberFits id × ¬ LayerFits f
IsFirstFault id f faults.Zoom = NumberFits id × LayerFits f × ¬ ZoomsFit f
IsFirstFault id f faults.Geometry = NumberFits id × LayerFits f × ZoomsFit f × ¬ GeometryFits f.geometry
IsFirstFault id f faults.Tags = NumberFits id × LayerFits f × ZoomsFit f × GeometryFits f.geometry × ¬ TagsFit f.tags
IsFirstFault id f faults.Value = NumberFits id × LayerFits f × ZoomsFit f × GeometryFits f.geometry × TagsFit f.tags × ¬ ValuesFit f.tags
IsFirstFault id f faults.Long = NumberFits id × LayerFits f × ZoomsFit f × GeometryFits f.geometry × TagsFit f.tags × ValuesFit f.tags × ¬ TextFits id f
-- no other fault is returned
IsFirstFault id f _ = ⊥

-- ---- the limits of an edit, in the order in which its faults are returned

-- a count of changes is at least one, and not too great
abbrev pub AreEnough : ℕ → Type 0
AreEnough count = (1 ≤ count) × (count ≤ MAX_CHANGES)

abbrev pub HasChanges : EditData → Type 0
HasChanges cs = AreEnough (length cs)

-- none of the changes is of this number
abbrev pub IsNew : List ChangeData → ℕ → Type 0
IsNew cs id = All (λ c. number_of c ≢ id) cs

-- no change is of the number of one before it
abbrev pub AreDistinct : List ChangeData → Type 0
AreDistinct cs = (k : ℕ) (d : ChangeData) → k < length cs → IsNew (take k cs) (number_of (get_or cs k d))

-- a change keeps its own limits, whatever the length of its text
abbrev pub ChangeFits : ChangeData → Type 0
ChangeFits (put id f) = NumberFits id × FeatureFits f
ChangeFits (delete id) = NumberFits id

-- the texts of the changes are short together
abbrev pub TextsFit : EditData → Type 0
TextsFit cs = length (spelled_changes cs) ≤ MAX_EDIT_BYTES

pub record IsAllowedEdit (cs : EditData) : Type 0 where
  pub count : HasChanges cs
  pub distinct : AreDistinct cs
  pub changes : All IsAllowedChange cs
  pub text : TextsFit cs

-- the first limit that the change breaks, but for that of its text
abbrev pub IsFirstOf : ChangeData → EditFault → Type 0
IsFirstOf (put id f) faults.Long = ⊥
IsFirstOf (put id f) fault = IsFirstFault id f fault
IsFirstOf (delete id) faults.Number = ¬ NumberFits id
IsFirstOf (delete id) fault = ⊥

-- the first change that breaks such a limit breaks this one
pub record IsFirstWithin (cs : EditData) (fault : EditFault) : Type 0 where
  pub index : ℕ
  pub change : ChangeData
  pub within : index < length cs
  pub is : get_or cs index change ≡ change
  pub before : All ChangeFits (take index cs)
  pub fault_is : IsFirstOf change fault

-- the edit breaks this limit, and those before it are kept
abbrev pub IsFirstEditFault : EditData → EditFault → Type 0
IsFirstEditFault cs faults.Batch = ¬ HasChanges cs
IsFirstEditFault cs faults.Twice = HasChanges cs × ¬ AreDistinct cs
IsFirstEditFault cs faults.Long = HasChanges cs × AreDistinct cs × All ChangeFits cs × ¬ TextsFit cs
IsFirstEditFault cs fault = HasChanges cs × AreDistinct cs × IsFirstWithin cs fault
