use Rattle.feature_model.specs.Spelled.{spelled_line}
use Rattle.feature_model.proofs.TextLengths.{length-list_all}
use Rattle.feature_model.proofs.lengths.lines_len.Goals as goal

pub returns-clause-exact : goal.returns-clause-exact
returns-clause-exact c = length-list_all spelled_line (λ l. l.items) c.args.lines.now _ _ c.loop-line-test.false c.loop-line.invariant.0
