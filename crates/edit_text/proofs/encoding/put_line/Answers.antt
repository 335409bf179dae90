use Rattle.std.proofs.Common.{refl}
use Rattle.feature_model.specs.Spelled.{spelled_point}
use Rattle.feature_model.specs.Types.{IsOfWorld}
use Rattle.edit_text.proofs.Texts.{IsPut-more, line_all, points_types_all}
use Rattle.edit_text.proofs.encoding.put_line.Goals as goal

pub loop-point-preserved : goal.loop-point-preserved
loop-point-preserved c = IsPut-more spelled_point IsOfWorld (λ p. p) c.args.points.now c.loop-point.point-index
    (record { x = 0; y = 0 }) _ _ _ _ c.loop-point-test.true c.loop-point.invariant refl c.in_ok-put_point.ensures.text c.in_ok-put_point.ensures.types

pub returns-clause-text : goal.returns-clause-text
returns-clause-text c = line_all IsOfWorld c.args.points.now c.loop-point.point-index _ _ _ c.loop-point-test.false c.in_ok-put_count.ensures
    c.loop-point.invariant

pub returns-clause-types : goal.returns-clause-types
returns-clause-types c = points_types_all IsOfWorld c.args.points.now c.loop-point.point-index _ _ c.loop-point-test.false c.loop-point.invariant
