use Rattle.std.proofs.Common.{◌≡◌, pos, neg_ℤ, ◌≤ℤ◌, ◌≤◌, ◌-◌, ◌*◌, ◌^◌, length, map}
use Rattle.edit_text.specs.Views.{points_view}
use Rattle.tile_cutter.specs.Cut.{tile_ring, twice_area}
use Rattle.tile_cutter.specs.Range.{IsSmall}
use Rattle.tile_cutter.proofs.Areas.{area_along}
use Rattle.tile_cutter.proofs.Passes.{stands_at}
use Rattle.tile_cutter.proofs.rings.twice_area.Given as goal

-- the sum so far, and of what is left
abbrev pub invariant-loop-point : goal.invariant-loop-point
invariant-loop-point l = record {
  area : area_along l.sum l.from (map (stands_at l.at.z l.at.x l.at.y) (points_view l.point-iterator)) l.start
      ≡ twice_area (tile_ring l.at.z l.at.x l.at.y (points_view l.points));
  left : length (points_view l.point-iterator) ≤ length (points_view l.points);
  low : neg_ℤ (pos (2 ^ 91 * (length (points_view l.points) - length (points_view l.point-iterator)))) ≤ℤ l.sum;
  high : l.sum ≤ℤ pos (2 ^ 91 * (length (points_view l.points) - length (points_view l.point-iterator)));
  small : IsSmall l.from;
}
