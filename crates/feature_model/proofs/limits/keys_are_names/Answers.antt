use Rattle.std.proofs.Common.{map, rules}
use Rattle.feature_model.specs.Data.{tag_data}
use Rattle.feature_model.specs.Limits.{IsName}
use Rattle.feature_model.proofs.Mapped.{tests_map}
use Rattle.feature_model.proofs.limits.keys_are_names.Goals as goal

pub returns : goal.returns
returns c = tests_map IsName (λ t. t.key) (map tag_data c.args.tags.now) _ (tests_map (λ t. IsName t.key) tag_data c.args.tags.now _ (search rules))
