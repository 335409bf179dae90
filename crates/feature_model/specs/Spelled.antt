-- The texts of changes and of edits: each has exactly one.
use Rattle.std.specs.Prelude.{ℕ, true, false, List, [], ◌∷◌, ◌++◌, length}
use Rattle.std.specs.List.{flat_map}
use Rattle.std.specs.Int.{w16, w32, w64, to_le_bytes, cast_unsigned}
use Rattle.feature_model.specs.declared.feature.World.{World}
use Rattle.feature_model.specs.declared.kinds.TheConstants.{POINTS_KIND, LINES_KIND, POLYGONS_KIND, TEXT_KIND, NATURAL_KIND, NEGATIVE_KIND}
use Rattle.feature_model.specs.declared.kinds.TheConstants.{FALSE_KIND, TRUE_KIND, PUT_KIND, DELETE_KIND}
use Rattle.feature_model.specs.Data.{GeometryData, world_points, world_lines, world_polygons, ValueData, text_value, natural_value}
use Rattle.feature_model.specs.Data.{negative_value, truth_value, TagData, FeatureData, ChangeData, put, delete, EditData}

-- a number in two, four or eight bytes, the lowest first
unfoldable pub two_bytes : ℕ → List ℕ
two_bytes n = to_le_bytes w16 n

unfoldable pub four_bytes : ℕ → List ℕ
four_bytes n = to_le_bytes w32 n

unfoldable pub eight_bytes : ℕ → List ℕ
eight_bytes n = to_le_bytes w64 n

-- the count, and the text of each
unfoldable pub spelled_list : {A : Type 0} → (A → List ℕ) → List A → List ℕ
spelled_list spell xs = two_bytes (length xs) ++ flat_map spell xs

unfoldable pub spelled_point : World → List ℕ
spelled_point p = four_bytes p.x ++ four_bytes p.y

-- a list of points
abbrev pub spelled_line : List World → List ℕ
spelled_line points = spelled_list spelled_point points

unfoldable pub spelled_geometry : GeometryData → List ℕ
spelled_geometry (world_points points) = POINTS_KIND ∷ spelled_line points
spelled_geometry (world_lines lines) = LINES_KIND ∷ spelled_list spelled_line lines
spelled_geometry (world_polygons polygons) = POLYGONS_KIND ∷ spelled_list (spelled_list spelled_line) polygons

-- a short text: its length in one byte, and its bytes
unfoldable pub spelled_name : List ℕ → List ℕ
spelled_name bytes = length bytes ∷ bytes

unfoldable pub spelled_value : ValueData → List ℕ
spelled_value (text_value bytes) = TEXT_KIND ∷ two_bytes (length bytes) ++ bytes
spelled_value (natural_value n) = NATURAL_KIND ∷ eight_bytes n
spelled_value (negative_value z) = NEGATIVE_KIND ∷ eight_bytes (cast_unsigned w64 z)
spelled_value (truth_value false) = FALSE_KIND ∷ []
spelled_value (truth_value true) = TRUE_KIND ∷ []

unfoldable pub spelled_tag : TagData → List ℕ
spelled_tag t = spelled_name t.key ++ spelled_value t.value

unfoldable pub spelled_tags : List TagData → List ℕ
spelled_tags tags = length tags ∷ flat_map spelled_tag tags

unfoldable pub spelled_feature : FeatureData → List ℕ
spelled_feature f = spelled_name f.layer ++ (f.minzoom ∷ f.maxzoom ∷ spelled_geometry f.geometry ++ spelled_tags f.tags)

unfoldable pub spelled_change : ChangeData → List ℕ
spelled_change (put id f) = PUT_KIND ∷ eight_bytes id ++ spelled_feature f
spelled_change (delete id) = DELETE_KIND ∷ eight_bytes id

-- the texts of changes, one after the other
abbrev pub spelled_changes : List ChangeData → List ℕ
spelled_changes cs = flat_map spelled_change cs

-- the text of an edit: the count of its changes, and their texts
unfoldable pub spelled : EditData → List ℕ
spelled cs = length cs ∷ spelled_changes cs
