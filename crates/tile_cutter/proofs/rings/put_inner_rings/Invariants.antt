use Rattle.std.proofs.Common.{true}
use Rattle.std.specs.Prelude.{All, option_to_list}
use Rattle.feature_model.specs.Limits.{CountFits}
use Rattle.edit_text.specs.Views.{lines_view}
use Rattle.tile_cutter.specs.declared.rings.Role.TheVariants.{Inner}
use Rattle.tile_cutter.specs.Cut.{tile_ring, inner_rings}
use Rattle.tile_cutter.specs.Passes.{shown_ring}
use Rattle.tile_cutter.proofs.PutLists.{ListsGo}
use Rattle.tile_cutter.proofs.rings.put_inner_rings.Given as goal

-- the rings so far, and those that are left
abbrev pub invariant-loop-inner : goal.invariant-loop-inner
invariant-loop-inner l = record {
  rings : ListsGo true l.at.x l.at.y (λ r. option_to_list (shown_ring Inner (tile_ring l.at.z l.at.x l.at.y r))) (lines_view l.inner-iterator)
      (inner_rings l.at.z l.at.x l.at.y (lines_view l.inners)) l.initial.out l.out;
  limits : All (CountFits 3) (lines_view l.inner-iterator);
}
