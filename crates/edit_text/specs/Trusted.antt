-- What is at the start of bytes that are known to be a text, and the bytes after it. Of other bytes something is said, and no fault.
use Rattle.std.specs.Prelude.{ℕ, zero, suc, ◌*◌, ◌==◌, ◌&&◌, Bool, true, false, if◌then◌else◌, List, [], ◌∷◌, take, drop}
use Rattle.std.specs.Int.{w16, w32, w64, from_le_bytes, cast_signed}
use Rattle.std.specs.Str.{is_utf8}
use Rattle.feature_model.specs.declared.feature.World.{World}
use Rattle.feature_model.specs.declared.kinds.TheConstants.{POINTS_KIND, LINES_KIND, TEXT_KIND, NATURAL_KIND, NEGATIVE_KIND, FALSE_KIND}
use Rattle.feature_model.specs.declared.kinds.TheConstants.{PUT_KIND}
use Rattle.feature_model.specs.Data.{GeometryData, world_points, world_lines, world_polygons, ValueData, text_value, natural_value}
use Rattle.feature_model.specs.Data.{negative_value, truth_value, TagData, FeatureData, ChangeData, put, delete}

-- what is at the start, and the bytes after it
abbrev pub Front : Type 0 → Type 0
Front A = List ℕ → A × List ℕ

-- ---- numbers and texts

unfoldable pub byte_in : Front ℕ
byte_in [] = (0, [])
byte_in (b ∷ bs) = (b, bs)

unfoldable pub count_in : Front ℕ
count_in (a ∷ b ∷ rest) = (from_le_bytes w16 (a ∷ b ∷ []), rest)
count_in bytes = (0, bytes)

unfoldable pub number_in : Front ℕ
number_in (a ∷ b ∷ c ∷ d ∷ e ∷ f ∷ g ∷ h ∷ rest) = (from_le_bytes w64 (a ∷ b ∷ c ∷ d ∷ e ∷ f ∷ g ∷ h ∷ []), rest)
number_in bytes = (0, bytes)

unfoldable pub name_in : Front (List ℕ)
name_in bytes = let len = byte_in bytes in (take len.0 len.1, drop len.0 len.1)

unfoldable pub long_text_in : Front (List ℕ)
long_text_in bytes = let len = count_in bytes in (take len.0 len.1, drop len.0 len.1)

-- ---- geometry

-- `count` of a kind, each where the one before it ends
unfoldable pub each_in : {A : Type 0} → Front A → ℕ → Front (List A)
each_in part zero bytes = ([], bytes)
each_in part (suc more) bytes =
    let first = part bytes in
    let others = each_in part more first.1 in
    (first.0 ∷ others.0, others.1)

unfoldable pub point_in : Front World
point_in (a ∷ b ∷ c ∷ d ∷ e ∷ f ∷ g ∷ h ∷ rest) =
    (record { x = from_le_bytes w32 (a ∷ b ∷ c ∷ d ∷ []); y = from_le_bytes w32 (e ∷ f ∷ g ∷ h ∷ []) }, rest)
point_in bytes = (record { x = 0; y = 0 }, bytes)

-- the points of bytes that hold nothing else
unfoldable pub points_of : List ℕ → List World
points_of (a ∷ b ∷ c ∷ d ∷ e ∷ f ∷ g ∷ h ∷ rest) =
    record { x = from_le_bytes w32 (a ∷ b ∷ c ∷ d ∷ []); y = from_le_bytes w32 (e ∷ f ∷ g ∷ h ∷ []) } ∷ points_of rest
points_of bytes = []

unfoldable pub line_in : Front (List World)
line_in bytes = let count = count_in bytes in (points_of (take (8 * count.0) count.1), drop (8 * count.0) count.1)

unfoldable pub lines_in : Front (List (List World))
lines_in bytes = let count = count_in bytes in each_in line_in count.0 count.1

unfoldable pub polygons_in : Front (List (List (List World)))
polygons_in bytes = let count = count_in bytes in each_in lines_in count.0 count.1

-- the lists of a geometry of this kind
unfoldable pub shape_in : ℕ → Front GeometryData
shape_in kind bytes =
    if kind == POINTS_KIND then (let r = line_in bytes in (world_points r.0, r.1))
    else (if kind == LINES_KIND then (let r = lines_in bytes in (world_lines r.0, r.1))
    else (let r = polygons_in bytes in (world_polygons r.0, r.1)))

unfoldable pub geometry_in : Front GeometryData
geometry_in bytes = let kind = byte_in bytes in shape_in kind.0 kind.1

-- ---- tags

unfoldable pub value_of : ℕ → Front ValueData
value_of kind bytes =
    if kind == TEXT_KIND then (let r = long_text_in bytes in (text_value r.0, r.1))
    else (if kind == NATURAL_KIND then (let r = number_in bytes in (natural_value r.0, r.1))
    else (if kind == NEGATIVE_KIND then (let r = number_in bytes in (negative_value (cast_signed w64 r.0), r.1))
    else (if kind == FALSE_KIND then (truth_value false, bytes)
    else (truth_value true, bytes))))

unfoldable pub value_in : Front ValueData
value_in bytes = let kind = byte_in bytes in value_of kind.0 kind.1

unfoldable pub tag_in : Front TagData
tag_in bytes = let key = name_in bytes in let value = value_in key.1 in (record { key = key.0; value = value.0 }, value.1)

unfoldable pub tags_in : Front (List TagData)
tags_in bytes = let count = byte_in bytes in each_in tag_in count.0 count.1

-- the texts of tags are UTF-8: a value that is a text, a key and its value, and all of them
unfoldable pub has_text : ValueData → Bool
has_text (text_value bytes) = is_utf8 bytes
has_text (natural_value n) = true
has_text (negative_value z) = true
has_text (truth_value b) = true

unfoldable pub has_texts : TagData → Bool
has_texts t = is_utf8 t.key && has_text t.value

unfoldable pub have_texts : List TagData → Bool
have_texts [] = true
have_texts (t ∷ ts) = has_texts t && have_texts ts

-- ---- features

unfoldable pub feature_in : Front FeatureData
feature_in bytes =
    let layer = name_in bytes in
    let minzoom = byte_in layer.1 in
    let maxzoom = byte_in minzoom.1 in
    let geometry = geometry_in maxzoom.1 in
    let tags = tags_in geometry.1 in
    (record { layer = layer.0; minzoom = minzoom.0; maxzoom = maxzoom.0; geometry = geometry.0; tags = tags.0 }, tags.1)

-- the feature of the text of a change that sets one: after the kind of the change and the number
unfoldable pub feature_of_text : List ℕ → FeatureData
feature_of_text text = (feature_in (drop 9 text)).0

-- ---- changes

unfoldable pub put_in : Front ChangeData
put_in bytes = let id = number_in bytes in let f = feature_in id.1 in (put id.0 f.0, f.1)

unfoldable pub delete_in : Front ChangeData
delete_in bytes = let id = number_in bytes in (delete id.0, id.1)

unfoldable pub change_of : ℕ → Front ChangeData
change_of kind bytes = if kind == PUT_KIND then put_in bytes else delete_in bytes

unfoldable pub change_in : Front ChangeData
change_in bytes = let kind = byte_in bytes in change_of kind.0 kind.1
