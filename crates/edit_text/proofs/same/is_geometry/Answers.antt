use Rattle.std.proofs.Common.{map}
use Rattle.edit_text.specs.Views.{polygons_view}
use Rattle.edit_text.proofs.SamePolygons.{polygons_same}
use Rattle.edit_text.proofs.same.is_geometry.Goals as goal

pub returns-in-Polygons-owned : goal.returns-in-Polygons-owned
returns-in-Polygons-owned c =
    let same = rw c.deref-in-Polygons-owned.ensures.value at c.are_polygons.ensures in
    rw (c.in-Polygons.is, c.in-Polygons-owned.is) (polygons_same c.are_polygons.result (polygons_view c.in-Polygons.polygons)
    (map (λ p. map (λ r. r.items) p.items) c.in-Polygons-owned.other.items) same)
