-- The most bytes of a text and of its parts, as far as they follow from the counts alone.
use Rattle.std.specs.Prelude.{ℕ, ◌+◌, ◌*◌}
use Rattle.feature_model.specs.declared.limits.TheConstants.{MAX_NAME_BYTES, MAX_ELEMENTS, MAX_TAGS, MAX_TEXT_BYTES}

-- a list of points: its count, and eight bytes for each
abbrev pub line_most : ℕ
line_most = 2 + 8 * MAX_ELEMENTS

-- a list of lines, or the rings of a polygon
abbrev pub lines_most : ℕ
lines_most = 2 + line_most * MAX_ELEMENTS

-- a list of polygons
abbrev pub polygons_most : ℕ
polygons_most = 2 + lines_most * MAX_ELEMENTS

-- a kind, and then a text with its length, or a number
abbrev pub value_most : ℕ
value_most = 9 + MAX_TEXT_BYTES

-- a key with its length, and a value
abbrev pub tag_most : ℕ
tag_most = 1 + MAX_NAME_BYTES + value_most

-- the count of tags, and the tags
abbrev pub tags_most : ℕ
tags_most = 1 + tag_most * MAX_TAGS

-- a change: its kind, its number, the name of a layer, two zooms, the kind of a geometry and its lists, and tags
abbrev pub change_most : ℕ
change_most = 13 + MAX_NAME_BYTES + polygons_most + tags_most
