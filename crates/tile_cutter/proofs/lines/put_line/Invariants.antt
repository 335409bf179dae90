use Rattle.edit_text.specs.Views.{points_view}
use Rattle.tile_cutter.proofs.PutLists.{LineGoes}
use Rattle.tile_cutter.proofs.lines.put_line.Given as goal

abbrev pub invariant-loop-point : goal.invariant-loop-point
invariant-loop-point l =
    LineGoes l.at.z l.at.x l.at.y (points_view l.line) (points_view l.point-iterator) l.initial.out l.out l.chain.items l.before
