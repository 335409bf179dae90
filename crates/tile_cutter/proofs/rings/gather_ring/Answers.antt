use Rattle.std.proofs.Common.{[], None, length, true, false, refl, subst, ap, sym, ◌∙◌}
use Rattle.std.specs.Prelude.{All}
use Rattle.std.proofs.lemmas.List.Elements.{All-take}
use Rattle.edit_text.specs.declared.lists.Points.{Points}
use Rattle.edit_text.specs.Views.{points_view}
use Rattle.tile_cutter.specs.Cut.{tile_points}
use Rattle.tile_cutter.specs.Passes.{returns_to_start}
use Rattle.tile_cutter.specs.Range.{IsOfTile}
use Rattle.tile_cutter.proofs.Passes.{HasKept, left_after, is_new, ring_pass, tile_points_are, pass_begins, pass_item, pass_over}
use Rattle.tile_cutter.proofs.Ways.{ring_opened}
use Rattle.tile_cutter.proofs.rings.gather_ring.Goals as goal

pub loop-point-init : goal.loop-point-init
loop-point-init c =
    let at = c.args.at in
    let begins = λ (s : Points). pass_begins left_after at.z at.x at.y (points_view s) _ (tile_points_are at.z at.x at.y (points_view s)) in
    rw c.clear.ensures.items (subst (λ (s : Points).
    HasKept left_after at.z at.x at.y (points_view s) (tile_points at.z at.x at.y (points_view c.args.points)) [] None)
    (sym c.into_iter-point-iterator.ensures.into_iter_gives) (begins c.args.points))

pub loop-point-preserved-in_ok-push : goal.loop-point-preserved-in_ok-push
loop-point-preserved-in_ok-push c =
    let at = c.args.at in
    let here = c.position-here in
    pass_item is_new left_after ring_pass at.z at.x at.y (points_view c.loop-point.point-iterator) (points_view c.next.new.self) c.in-Some.point _
    c.loop-point.ring.items c.push.new.self.items c.loop-point.before here.result c.loop-point.invariant c.in-Some.ensures.steps
    here.ensures.position here.ensures.of_tile
    (rw (sym c.repeats.ensures, c.if-not-repeats.true) c.in_ok-push.ensures.items)

pub loop-point-preserved : goal.loop-point-preserved
loop-point-preserved c =
    let at = c.args.at in
    let here = c.position-here in
    pass_item is_new left_after ring_pass at.z at.x at.y (points_view c.loop-point.point-iterator) (points_view c.next.new.self) c.in-Some.point _
    c.loop-point.ring.items c.loop-point.ring.items c.loop-point.before here.result c.loop-point.invariant c.in-Some.ensures.steps
    here.ensures.position here.ensures.of_tile
    (rw (sym c.repeats.ensures, c.if-not-repeats.false) refl)

pub returns-then-returns_to_start-clause-ring : goal.returns-then-returns_to_start-clause-ring
returns-then-returns_to_start-clause-ring c =
    let at = c.args.at in
    let ring = c.loop-point.ring.items in
    let ps = points_view c.args.points in
    let whole =
    pass_over is_new left_after ring_pass at.z at.x at.y (points_view c.loop-point.point-iterator) _ ring c.loop-point.before c.loop-point.invariant
    c.in-None.ensures.steps.0
    in
    let test = c.returns_to_start.ensures ∙ ap returns_to_start c.deref.ensures.value in
    let long = sym c.deref.ensures.len ∙ ap length c.deref.ensures.value in
    ring_opened at.z at.x at.y ps ring c.pop.new.self.items _ true whole (sym c.if-returns_to_start.true ∙ test) long c.pop.ensures.rest

pub returns-else-returns_to_start-clause-ring : goal.returns-else-returns_to_start-clause-ring
returns-else-returns_to_start-clause-ring c =
    let at = c.args.at in
    let ring = c.loop-point.ring.items in
    let ps = points_view c.args.points in
    let whole =
    pass_over is_new left_after ring_pass at.z at.x at.y (points_view c.loop-point.point-iterator) _ ring c.loop-point.before c.loop-point.invariant
    c.in-None.ensures.steps.0
    in
    let test = c.returns_to_start.ensures ∙ ap returns_to_start c.deref.ensures.value in
    let long = sym c.deref.ensures.len ∙ ap length c.deref.ensures.value in
    ring_opened at.z at.x at.y ps ring ring _ false whole (sym c.if-returns_to_start.false ∙ test) long refl

pub returns-then-returns_to_start-clause-of_tile : goal.returns-then-returns_to_start-clause-of_tile
returns-then-returns_to_start-clause-of_tile c =
    let P = IsOfTile c.args.at.x c.args.at.y in
    let ring = c.loop-point.ring.items in
    subst (All P) (sym c.pop.ensures.rest) (All-take P _ ring c.loop-point.invariant.of_tile)
