use Rattle.std.proofs.Common.{true, arith}
use Rattle.std.specs.Prelude.{option_to_list}
use Rattle.feature_model.specs.Limits.{CountFits}
use Rattle.edit_text.specs.Views.{points_view, lines_view}
use Rattle.tile_cutter.specs.declared.rings.Role.TheVariants.{Inner}
use Rattle.tile_cutter.specs.Cut.{tile_ring, inner_rings}
use Rattle.tile_cutter.specs.Passes.{shown_ring}
use Rattle.tile_cutter.proofs.Each.{first_keeps, rest_keeps}
use Rattle.tile_cutter.proofs.PutLists.{lists_begin, lists_item, lists_over}
use Rattle.tile_cutter.proofs.Turned.{inner_rings_are}
use Rattle.tile_cutter.proofs.rings.put_inner_rings.Goals as goal

pub loop-inner-init : goal.loop-inner-init
loop-inner-init c =
    let at = c.args.at in
    let inners = lines_view c.args.inners in
    record {
      rings =
          rw c.into_iter-inner-iterator.ensures.into_iter_gives
          (lists_begin true at.x at.y (λ r. option_to_list (shown_ring Inner (tile_ring at.z at.x at.y r))) inners (inner_rings at.z at.x at.y inners)
          c.args.out.now (inner_rings_are at.z at.x at.y inners) c.requires.cursor);
      limits = rw c.into_iter-inner-iterator.ensures.into_iter_gives c.requires.limits;
    }

pub put_ring-requires-clause-few : goal.put_ring-requires-clause-few
put_ring-requires-clause-few c =
    let fits =
    first_keeps (CountFits 3) (lines_view c.loop-inner.inner-iterator) _ (points_view c.in-Some.inner) c.in-Some.ensures.steps c.loop-inner.invariant.limits in
    omega (arith, fits.1)

pub loop-inner-preserved : goal.loop-inner-preserved
loop-inner-preserved c =
    let at = c.args.at in
    let left = lines_view c.loop-inner.inner-iterator in
    let rest = lines_view c.next.new.self in
    let inner = points_view c.in-Some.inner in
    let first = c.in-Some.ensures.steps in
    record {
      rings =
          lists_item true at.x at.y (λ r. option_to_list (shown_ring Inner (tile_ring at.z at.x at.y r))) left rest inner
          (inner_rings at.z at.x at.y (lines_view c.args.inners)) c.args.out.now c.loop-inner.out c.put_ring.new.out c.loop-inner.invariant.rings first
          c.in_ok-put_ring.ensures.put c.in_ok-put_ring.ensures.drawable;
      limits = rest_keeps (CountFits 3) left rest inner first c.loop-inner.invariant.limits;
    }

pub returns-clause-rings : goal.returns-clause-rings
returns-clause-rings c =
    let at = c.args.at in
    (lists_over true at.x at.y (λ r. option_to_list (shown_ring Inner (tile_ring at.z at.x at.y r))) (lines_view c.loop-inner.inner-iterator)
    (inner_rings at.z at.x at.y (lines_view c.args.inners)) c.args.out.now c.loop-inner.out c.loop-inner.invariant.rings c.in-None.ensures.steps.0).0

pub returns-clause-drawable : goal.returns-clause-drawable
returns-clause-drawable c =
    let at = c.args.at in
    (lists_over true at.x at.y (λ r. option_to_list (shown_ring Inner (tile_ring at.z at.x at.y r))) (lines_view c.loop-inner.inner-iterator)
    (inner_rings at.z at.x at.y (lines_view c.args.inners)) c.args.out.now c.loop-inner.out c.loop-inner.invariant.rings c.in-None.ensures.steps.0).1
