use Rattle.std.proofs.Common.{true}
use Rattle.std.specs.Prelude.{All}
use Rattle.feature_model.specs.Limits.{RingsFit}
use Rattle.edit_text.specs.Views.{polygons_view}
use Rattle.tile_cutter.specs.Cut.{polygon_cut, polygons_cut}
use Rattle.tile_cutter.proofs.PutLists.{ListsGo}
use Rattle.tile_cutter.proofs.rings.put_all.Given as goal

-- the rings so far, and those of the polygons that are left
abbrev pub invariant-loop-polygon : goal.invariant-loop-polygon
invariant-loop-polygon l = record {
  rings : ListsGo true l.at.x l.at.y (polygon_cut l.at.z l.at.x l.at.y) (polygons_view l.polygon-iterator)
      (polygons_cut l.at.z l.at.x l.at.y (polygons_view l.polygons)) l.initial.out l.out;
  limits : All RingsFit (polygons_view l.polygon-iterator);
}
