use Rattle.std.proofs.Common.{◌≢◌, rules}
use Rattle.feature_model.specs.Data.{number_of}
use Rattle.feature_model.proofs.Mapped.{tests_map}
use Rattle.feature_store.specs.Prepared.{prepared_data}
use Rattle.feature_store.proofs.records.is_new.Goals as goal

pub returns : goal.returns
returns c = tests_map (λ x. number_of x ≢ c.args.id) prepared_data c.args.changes.now _ (search rules)
