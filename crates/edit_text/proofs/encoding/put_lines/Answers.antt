use Rattle.std.proofs.Common.{All}
use Rattle.feature_model.specs.Spelled.{spelled_line}
use Rattle.feature_model.specs.Types.{IsOfWorld}
use Rattle.edit_text.proofs.Texts.{IsPut-more, text_all, types_all}
use Rattle.edit_text.proofs.encoding.put_lines.Goals as goal

pub loop-line-preserved : goal.loop-line-preserved
loop-line-preserved c = IsPut-more spelled_line (All IsOfWorld)
    (λ l. l.items) c.args.lines.now c.loop-line.line-index c.line-item.result _ _ _ _ c.loop-line-test.true c.loop-line.invariant
    (cc) c.in_ok-put_line.ensures.text c.in_ok-put_line.ensures.types

pub returns-clause-text : goal.returns-clause-text
returns-clause-text c = text_all spelled_line (All IsOfWorld)
    (λ l. l.items) c.args.lines.now c.loop-line.line-index _ _ _ c.loop-line-test.false c.in_ok-put_count.ensures c.loop-line.invariant

pub returns-clause-types : goal.returns-clause-types
returns-clause-types c = types_all spelled_line (All IsOfWorld)
    (λ l. l.items) c.args.lines.now c.loop-line.line-index _ _ c.loop-line-test.false c.loop-line.invariant
