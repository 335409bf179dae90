use Rattle.std.proofs.Common.{rules}
use Rattle.feature_model.specs.Limits.{CountFits}
use Rattle.feature_model.proofs.Mapped.{tests_map}
use Rattle.feature_model.proofs.limits.lines_fit.Goals as goal

pub returns : goal.returns
returns c = tests_map (CountFits c.args.least) (λ l. l.items) c.args.lines.now _ (search rules)
