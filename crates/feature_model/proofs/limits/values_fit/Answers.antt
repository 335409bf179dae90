use Rattle.std.proofs.Common.{rules}
use Rattle.feature_model.specs.Data.{tag_data}
use Rattle.feature_model.specs.Limits.{ValueFits}
use Rattle.feature_model.proofs.Mapped.{tests_map}
use Rattle.feature_model.proofs.limits.values_fit.Goals as goal

pub returns : goal.returns
returns c = tests_map (λ t. ValueFits t.value) tag_data c.args.tags.now _ (search rules)
