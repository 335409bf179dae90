-- A feature's message, by its packed parts.
use Rattle.std.specs.Prelude.{ℕ, ◌+◌, ◌*◌, List, [], ◌∷◌, ◌++◌, length, Option}
use Rattle.pb_wire.specs.declared.limits.TheConstants.{WIRE_LEN}
use Rattle.pb_wire.specs.Varint.{varint}
use Rattle.geometry_commands.specs.declared.kinds.ShapeKind.{ShapeKind}
use Rattle.geometry_commands.specs.declared.kinds.ShapeKind.TheVariants as kinds
use Rattle.mvt_layer.specs.declared.field_numbers.TheConstants.{FEATURE_TAGS, FEATURE_TYPE, FEATURE_GEOMETRY}
use Rattle.mvt_layer.specs.declared.field_numbers.TheConstants.{UNKNOWN_TYPE, POINT_TYPE, LINESTRING_TYPE, POLYGON_TYPE}
use Rattle.mvt_write.specs.Written.{number_field, id_written}

-- the number of a geometry's type
abbrev pub type_of : ShapeKind → ℕ
type_of kinds.Unknown = UNKNOWN_TYPE
type_of kinds.Points = POINT_TYPE
type_of kinds.Lines = LINESTRING_TYPE
type_of kinds.Polygons = POLYGON_TYPE

-- what a field of this many bytes has before them
abbrev pub field_head : ℕ → ℕ → List ℕ
field_head number len = varint (8 * number + WIRE_LEN) ++ varint len

-- what a feature has before the packed indices of its tags
abbrev pub tags_head : Option ℕ → List ℕ → List ℕ
tags_head id [] = id_written id
tags_head id (b ∷ bs) = id_written id ++ field_head FEATURE_TAGS (length (b ∷ bs))

-- what it has between them and the packed integers of its geometry
abbrev pub geometry_head : ShapeKind → List ℕ → List ℕ
geometry_head kind geometry = number_field FEATURE_TYPE (type_of kind) ++ field_head FEATURE_GEOMETRY (length geometry)

abbrev pub message_of : Option ℕ → List ℕ → ShapeKind → List ℕ → List ℕ
message_of id tags kind geometry = tags_head id tags ++ (tags ++ (geometry_head kind geometry ++ geometry))
