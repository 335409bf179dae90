use Rattle.std.proofs.Common.{◌≢◌, rules}
use Rattle.feature_model.specs.Data.{number_of, change_data}
use Rattle.feature_model.proofs.Mapped.{tests_map}
use Rattle.feature_model.proofs.limits.is_new.Goals as goal

pub returns : goal.returns
returns c = tests_map (λ x. number_of x ≢ c.args.number) change_data c.args.changes.now _ (search rules)
