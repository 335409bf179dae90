use Rattle.std.proofs.Common.{false}
use Rattle.std.specs.Prelude.{All}
use Rattle.feature_model.specs.Limits.{CountFits}
use Rattle.edit_text.specs.Views.{lines_view}
use Rattle.tile_cutter.specs.Cut.{line_cut, lines_cut}
use Rattle.tile_cutter.proofs.PutLists.{ListsGo}
use Rattle.tile_cutter.proofs.lines.put_all.Given as goal

-- the chains so far, and those of the lines that are left
abbrev pub invariant-loop-line : goal.invariant-loop-line
invariant-loop-line l = record {
  chains : ListsGo false l.at.x l.at.y (line_cut l.at.z l.at.x l.at.y) (lines_view l.line-iterator) (lines_cut l.at.z l.at.x l.at.y (lines_view l.lines))
      l.initial.out l.out;
  limits : All (CountFits 2) (lines_view l.line-iterator);
}
