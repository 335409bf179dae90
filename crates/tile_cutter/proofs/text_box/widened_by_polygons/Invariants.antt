use Rattle.std.proofs.Common.{◌≡◌}
use Rattle.std.specs.Prelude.{flat_map}
use Rattle.edit_text.specs.Views.{polygons_view}
use Rattle.tile_cutter.specs.Covered.{all_of}
use Rattle.tile_cutter.specs.Widened.{bounds_after}
use Rattle.tile_cutter.proofs.text_box.widened_by_polygons.Given as goal

-- the box so far, and of what is left
abbrev pub invariant-loop-rings : goal.invariant-loop-rings
invariant-loop-rings l =
    bounds_after l.bounds (flat_map all_of (polygons_view l.rings-iterator)) ≡ bounds_after l.initial.bounds (flat_map all_of (polygons_view l.polygons))
