-- Lengths of words, and values without floats.
use Rattle.std.proofs.Common.{◌≡◌, ◌≤◌, ℕ, List, [], ◌∷◌, false, map, length, refl, arith}
use Rattle.serde_json.specs.Data.{depth, items_depth, members_depth}
use Rattle.serde_json.specs.Read.{max_depth}
use Rattle.serde_json.specs.View.{items_of}
use Rattle.serde_json.specs.Written.{has_float, items_have_float, members_have_float}
use Rattle.tile_routes.specs.Methods.{allow_of, name_of}
use Rattle.tile_routes.specs.Paths.{Asked, asked_tile, asked_feature, asked_from, asked_page, asked_edits, asked_numbered, asked_view, asked_action}
use Rattle.tile_routes.specs.Paths.{asked_box, asked_numbered_feature, asked_nothing}
use Rattle.feature_model.specs.declared.feature.World.{World}
use Rattle.feature_model.specs.Data.{GeometryData, world_points, world_lines, world_polygons, ValueData, text_value}
use Rattle.feature_model.specs.Data.{natural_value, negative_value, truth_value, TagData, FeatureData, ChangeData, EditData, put, delete}
use Rattle.edit_json.specs.Batches.{asked_json, asked_of}
use Rattle.edit_json.specs.Numbered.{numbered_edit}
use Rattle.edit_json.specs.Json.{json_of, point_json, points_json, lines_json, shape_json, shape_of, value_json, tags_json}

-- the methods that a path allows make a short word
pub allow_short : (asked : Asked) → length (allow_of asked) ≤ 64
unfolding name_of
allow_short (asked_tile z x y format) = omega arith
allow_short (asked_feature id) = omega arith
allow_short (asked_from id) = omega arith
allow_short (asked_page id) = omega arith
allow_short (asked_box bounds id) = omega arith
allow_short (asked_edits number) = omega arith
allow_short (asked_numbered number) = omega arith
allow_short (asked_numbered_feature id number) = omega arith
allow_short (asked_view view) = omega arith
allow_short (asked_action action) = omega arith
allow_short asked_nothing = omega arith

-- ---- a feature has no float

points_whole : (ps : List World) → items_have_float (items_of (map point_json ps)) ≡ false
points_whole [] = refl
points_whole (p ∷ ps) = points_whole ps

lines_whole : (ls : List (List World)) → items_have_float (items_of (map points_json ls)) ≡ false
lines_whole [] = refl
lines_whole (l ∷ ls) = rw (points_whole l, lines_whole ls) refl

polygons_whole : (ps : List (List (List World))) → items_have_float (items_of (map lines_json ps)) ≡ false
polygons_whole [] = refl
polygons_whole (p ∷ ps) = rw (lines_whole p, polygons_whole ps) refl

shape_whole : (g : GeometryData) → has_float (shape_json (shape_of g)) ≡ false
shape_whole (world_points ps) = rw (points_whole ps) refl
shape_whole (world_lines ls) = rw (lines_whole ls) refl
shape_whole (world_polygons ps) = rw (polygons_whole ps) refl

value_whole : (v : ValueData) → has_float (value_json v) ≡ false
value_whole (text_value t) = refl
value_whole (natural_value n) = refl
value_whole (negative_value z) = refl
value_whole (truth_value b) = refl

tags_whole : (ts : List TagData) → members_have_float (tags_json ts) ≡ false
tags_whole [] = refl
tags_whole (t ∷ ts) = rw (value_whole t.value, tags_whole ts) refl

pub feature_whole : (f : FeatureData) → has_float (json_of f) ≡ false
feature_whole f = rw (shape_whole f.geometry, tags_whole f.tags) refl

-- ---- nor is it deep

points_shallow : (ps : List World) → items_depth (items_of (map point_json ps)) ≤ 1
points_shallow [] = omega arith
points_shallow (p ∷ ps) = omega (arith, points_shallow ps)

lines_shallow : (ls : List (List World)) → items_depth (items_of (map points_json ls)) ≤ 2
lines_shallow [] = omega arith
lines_shallow (l ∷ ls) = omega (arith, points_shallow l, lines_shallow ls)

polygons_shallow : (ps : List (List (List World))) → items_depth (items_of (map lines_json ps)) ≤ 3
polygons_shallow [] = omega arith
polygons_shallow (p ∷ ps) = omega (arith, lines_shallow p, polygons_shallow ps)

shape_shallow : (g : GeometryData) → depth (shape_json (shape_of g)) ≤ 5
shape_shallow (world_points ps) = omega (arith, points_shallow ps)
shape_shallow (world_lines ls) = omega (arith, lines_shallow ls)
shape_shallow (world_polygons ps) = omega (arith, polygons_shallow ps)

value_shallow : (v : ValueData) → depth (value_json v) ≡ 0
value_shallow (text_value t) = refl
value_shallow (natural_value n) = refl
value_shallow (negative_value z) = refl
value_shallow (truth_value b) = refl

tags_shallow : (ts : List TagData) → members_depth (tags_json ts) ≤ 0
tags_shallow [] = omega arith
tags_shallow (t ∷ ts) = omega (arith, value_shallow t.value, tags_shallow ts)

pub feature_shallow : (f : FeatureData) → depth (json_of f) ≤ max_depth
feature_shallow f = omega (arith, shape_shallow f.geometry, tags_shallow f.tags)

-- ---- nor has an edit floats

change_whole : (c : ChangeData) → has_float (asked_json (asked_of c)) ≡ false
change_whole (put id f) = rw (feature_whole f) refl
change_whole (delete id) = refl

changes_whole : (cs : EditData) → items_have_float (items_of (map asked_json (map asked_of cs))) ≡ false
changes_whole [] = refl
changes_whole (c ∷ cs) = rw (change_whole c, changes_whole cs) refl

pub edit_whole : (number : ℕ) (cs : EditData) → has_float (numbered_edit number cs) ≡ false
edit_whole number cs = rw (changes_whole cs) refl
