-- What is packed: the integers of a shape, each in its shortest encoding, and where the cursor is.
use Rattle.std.specs.Prelude.{◌≡◌, Bool, List, ◌++◌}
use Rattle.std.specs.List.{flat_map}
use Rattle.pb_wire.specs.Varint.{varint}
use Rattle.geometry_commands.specs.declared.point.Pt.{Pt}
use Rattle.geometry_commands.specs.declared.packed.PackedShape.{PackedShape}
use Rattle.geometry_commands.specs.Commands.{origin}
use Rattle.geometry_commands.specs.Faulty.{end_of}
use Rattle.geometry_commands.specs.Shapes.{ShapeView, points, lines, rings, raw, last_of, lines_spelled, shape_spelled}

-- where the way along a shape ends
abbrev pub shape_end : ShapeView → Pt
shape_end (points ps) = last_of origin ps
shape_end (lines ls) = end_of origin ls
shape_end (rings ls) = end_of origin ls
shape_end (raw ns) = origin

-- the bytes are the packed integers of the shape, and the cursor is at its end
pub record Packs (p : PackedShape) (s : ShapeView) : Type 0 where
  pub bytes : p.bytes.items ≡ flat_map varint (shape_spelled s)
  pub at : p.at ≡ shape_end s

-- what was packed, and lines or rings after it
pub record Adds (closed : Bool) (old new : PackedShape) (ls : List (List Pt)) : Type 0 where
  pub bytes : new.bytes.items ≡ old.bytes.items ++ flat_map varint (lines_spelled closed old.at ls)
  pub at : new.at ≡ end_of old.at ls
