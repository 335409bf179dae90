use Rattle.std.proofs.Common.{◌≡◌, map}
use Rattle.std.specs.Prelude.{◌↔◌}
use Rattle.edit_text.specs.Views.{polygons_view}
use Rattle.edit_text.proofs.same.are_polygons.Given as goal

-- those that are left are the same where all are
abbrev pub invariant-loop-rings : goal.invariant-loop-rings
invariant-loop-rings l = (polygons_view l.rings-iterator ≡ map (λ p. map (λ r. r.items) p.items) l.left)
    ↔ (polygons_view l.polygons ≡ map (λ p. map (λ r. r.items) p.items) l.owned)
