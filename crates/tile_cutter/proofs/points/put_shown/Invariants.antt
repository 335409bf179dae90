use Rattle.edit_text.specs.Views.{points_view}
use Rattle.tile_cutter.proofs.PutPoints.{PointsGo}
use Rattle.tile_cutter.proofs.points.put_shown.Given as goal

abbrev pub invariant-loop-point : goal.invariant-loop-point
invariant-loop-point l = PointsGo l.at.z l.at.x l.at.y (points_view l.points) (points_view l.point-iterator) l.initial.out l.out l.before
