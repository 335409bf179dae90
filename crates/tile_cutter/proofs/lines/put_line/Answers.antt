use Rattle.std.proofs.Common.{[], None, false, sym, subst, ◌∙◌, arith}
use Rattle.edit_text.specs.declared.lists.Points.{Points}
use Rattle.edit_text.specs.Views.{points_view}
use Rattle.tile_cutter.specs.Cut.{line_cut}
use Rattle.tile_cutter.proofs.PutLists.{LineGoes, adds_nothing, line_begins, line_keeps_chain, line_goes_further, line_ends_with, line_is_drawable, chain_can}
use Rattle.tile_cutter.proofs.lines.put_line.Goals as goal

pub returns-then-not-points_meet_box-clause-chains : goal.returns-then-not-points_meet_box-clause-chains
returns-then-not-points_meet_box-clause-chains c =
    let at = c.args.at in
    adds_nothing false c.args.out.now (line_cut at.z at.x at.y (points_view c.args.line)) (c.points_meet_box.ensures.line c.if-not-points_meet_box.true)

pub loop-point-init : goal.loop-point-init
loop-point-init c =
    let at = c.args.at in
    let line = points_view c.args.line in
    rw c.clear.ensures.items
    (subst (λ (s : Points). LineGoes at.z at.x at.y line (points_view s) c.args.out.now c.args.out.now [] None)
    (sym c.into_iter-point-iterator.ensures.into_iter_gives) (line_begins at.z at.x at.y line c.args.out.now c.requires.cursor))

pub go_on-requires : goal.go_on-requires
go_on-requires c =
    let at = c.args.at in
    chain_can at.z at.x at.y (points_view c.args.line) (points_view c.loop-point.point-iterator) c.args.out.now c.loop-point.out c.loop-point.chain.items
    c.loop-point.before c.loop-point.invariant

pub loop-point-preserved-in_ok-go_on : goal.loop-point-preserved-in_ok-go_on
loop-point-preserved-in_ok-go_on c =
    let at = c.args.at in
    let here = c.position-here in
    line_goes_further at.z at.x at.y (points_view c.args.line) (points_view c.loop-point.point-iterator) (points_view c.next.new.self) c.in-Some.point
    here.result c.args.out.now c.loop-point.out c.loop-point.chain.items c.loop-point.before c.loop-point.invariant c.in-Some.ensures.steps
    here.ensures.position here.ensures.of_tile _ c.go_on.new.out _ (omega (arith, c.requires.limits.1)) (sym c.other_than.ensures ∙ c.in-Some-other_than.is)
    c.in_ok-go_on.ensures.chain c.in_ok-go_on.ensures.ended

pub loop-point-preserved : goal.loop-point-preserved
loop-point-preserved c =
    let at = c.args.at in
    let here = c.position-here in
    line_keeps_chain at.z at.x at.y (points_view c.args.line) (points_view c.loop-point.point-iterator) (points_view c.next.new.self) c.in-Some.point
    here.result c.args.out.now c.loop-point.out c.loop-point.chain.items c.loop-point.before c.loop-point.invariant c.in-Some.ensures.steps
    here.ensures.position here.ensures.of_tile (sym c.other_than.ensures ∙ c.in_default.is)

pub end_chain-requires : goal.end_chain-requires
end_chain-requires c =
    let at = c.args.at in
    chain_can at.z at.x at.y (points_view c.args.line) (points_view c.loop-point.point-iterator) c.args.out.now c.loop-point.out c.loop-point.chain.items
    c.loop-point.before c.loop-point.invariant

pub returns-clause-chains : goal.returns-clause-chains
returns-clause-chains c =
    let at = c.args.at in
    line_ends_with at.z at.x at.y (points_view c.args.line) (points_view c.loop-point.point-iterator) c.args.out.now c.loop-point.out c.end_chain.new.out
    c.loop-point.chain.items c.loop-point.before c.loop-point.invariant c.in-None.ensures.steps.0 c.in_ok-end_chain.ensures.put

pub returns-clause-drawable : goal.returns-clause-drawable
returns-clause-drawable c =
    let at = c.args.at in
    line_is_drawable at.z at.x at.y (points_view c.args.line) (points_view c.loop-point.point-iterator) c.args.out.now c.loop-point.out
    c.loop-point.chain.items c.loop-point.before (omega (arith, c.requires.limits.1)) c.loop-point.invariant c.in-None.ensures.steps.0
