use Rattle.std.proofs.Common.{true, sym, ◌∙◌, subst}
use Rattle.std.specs.Prelude.{All, option_to_list}
use Rattle.std.proofs.lemmas.List.Elements.{All-append}
use Rattle.feature_model.specs.Limits.{CountFits}
use Rattle.edit_text.specs.Views.{points_view, lines_view}
use Rattle.geometry_commands.specs.Packed.{Adds}
use Rattle.geometry_commands.proofs.Packing.{adds_both}
use Rattle.tile_cutter.specs.declared.rings.Role.TheVariants.{Outer}
use Rattle.tile_cutter.specs.Cut.{tile_ring, inner_rings}
use Rattle.tile_cutter.specs.Passes.{shown_ring}
use Rattle.tile_cutter.specs.Range.{IsDrawable}
use Rattle.tile_cutter.proofs.Each.{rest_keeps}
use Rattle.tile_cutter.proofs.PutLists.{cursor_after, polygon_with, polygon_without}
use Rattle.tile_cutter.proofs.rings.put_polygon.Goals as goal

pub put_inner_rings-requires-clause-limits : goal.put_inner_rings-requires-clause-limits
put_inner_rings-requires-clause-limits c =
    rest_keeps (CountFits 3) (lines_view c.args.polygon) _ (points_view c.in-Some.outer) c.in-Some.ensures.steps c.requires.limits.1

pub put_inner_rings-requires-clause-cursor : goal.put_inner_rings-requires-clause-cursor
put_inner_rings-requires-clause-cursor c =
    let at = c.args.at in
    cursor_after true at.x at.y c.args.out.now c.put_ring.new.out
    (option_to_list (shown_ring Outer (tile_ring at.z at.x at.y (points_view c.in-Some.outer)))) c.requires.cursor c.in_ok-put_ring.ensures.put
    c.in_ok-put_ring.ensures.drawable

pub returns-in_ok-put_inner_rings-clause-rings : goal.returns-in_ok-put_inner_rings-clause-rings
returns-in_ok-put_inner_rings-clause-rings c =
    let at = c.args.at in
    let outer = points_view c.in-Some.outer in
    let inners = lines_view c.next.new.self in
    subst (Adds true c.args.out.now c.put_inner_rings.new.out)
    (polygon_with at.z at.x at.y (lines_view c.args.polygon) outer inners c.in-Some.ensures.steps (sym c.in_ok-put_ring.ensures.shown ∙ c.if-branch.true))
    (adds_both true c.args.out.now c.put_ring.new.out c.put_inner_rings.new.out (option_to_list (shown_ring Outer (tile_ring at.z at.x at.y outer)))
    (inner_rings at.z at.x at.y inners) c.in_ok-put_ring.ensures.put c.in_ok-put_inner_rings.ensures.rings)

pub returns-in_ok-put_inner_rings-clause-drawable : goal.returns-in_ok-put_inner_rings-clause-drawable
returns-in_ok-put_inner_rings-clause-drawable c =
    let at = c.args.at in
    let outer = points_view c.in-Some.outer in
    let inners = lines_view c.next.new.self in
    subst (All (IsDrawable true at.x at.y))
    (polygon_with at.z at.x at.y (lines_view c.args.polygon) outer inners c.in-Some.ensures.steps (sym c.in_ok-put_ring.ensures.shown ∙ c.if-branch.true))
    (All-append (IsDrawable true at.x at.y) (option_to_list (shown_ring Outer (tile_ring at.z at.x at.y outer))) (inner_rings at.z at.x at.y inners)
    c.in_ok-put_ring.ensures.drawable c.in_ok-put_inner_rings.ensures.drawable)

pub returns-else-branch-clause-rings : goal.returns-else-branch-clause-rings
returns-else-branch-clause-rings c =
    let at = c.args.at in
    let outer = points_view c.in-Some.outer in
    subst (Adds true c.args.out.now c.put_ring.new.out)
    (polygon_without at.z at.x at.y (lines_view c.args.polygon) outer (lines_view c.next.new.self) c.in-Some.ensures.steps
    (sym c.in_ok-put_ring.ensures.shown ∙ c.if-branch.false)) c.in_ok-put_ring.ensures.put

pub returns-else-branch-clause-drawable : goal.returns-else-branch-clause-drawable
returns-else-branch-clause-drawable c =
    let at = c.args.at in
    let outer = points_view c.in-Some.outer in
    subst (All (IsDrawable true at.x at.y))
    (polygon_without at.z at.x at.y (lines_view c.args.polygon) outer (lines_view c.next.new.self) c.in-Some.ensures.steps
    (sym c.in_ok-put_ring.ensures.shown ∙ c.if-branch.false)) c.in_ok-put_ring.ensures.drawable
