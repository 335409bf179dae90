use Rattle.edit_text.specs.Views.{points_view}
use Rattle.tile_cutter.specs.Cut.{tile_points}
use Rattle.tile_cutter.proofs.Passes.{HasKept, left_after}
use Rattle.tile_cutter.proofs.rings.gather_ring.Given as goal

abbrev pub invariant-loop-point : goal.invariant-loop-point
invariant-loop-point l =
    HasKept left_after l.at.z l.at.x l.at.y (points_view l.point-iterator) (tile_points l.at.z l.at.x l.at.y (points_view l.points)) l.ring.items l.before
