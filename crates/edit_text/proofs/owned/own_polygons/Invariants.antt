use Rattle.std.proofs.Common.{◌+◌, ◌≤◌, length, ◌≡◌, ◌++◌, map}
use Rattle.std.specs.Prelude.{vec_len, vec_capacity}
use Rattle.edit_text.specs.Views.{polygons_view}
use Rattle.edit_text.proofs.owned.own_polygons.Given as goal

-- those that are owned, and those that are left, for which there is room
abbrev pub invariant-loop-rings : goal.invariant-loop-rings
invariant-loop-rings l = record {
  room : vec_len l.owned + length (polygons_view l.rings-iterator) ≤ vec_capacity l.owned;
  done : map (λ p. map (λ r. r.items) p.items) l.owned.items ++ polygons_view l.rings-iterator ≡ polygons_view l.fn.polygons;
}
