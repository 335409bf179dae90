use Rattle.std.proofs.Common.{arith}
use Rattle.std.proofs.lemmas.Grind.{common_steps}
use Rattle.feature_model.specs.Data.{feature_data}
use Rattle.edit_text.proofs.FeatureTexts.{feature_types, features}
use Rattle.edit_text.proofs.encoding.put_feature.Goals as goal

pub returns-clause-types : goal.returns-clause-types
returns-clause-types c =
    feature_types c.put_tags.result (feature_data c.args.feature.now)
    (rw c.as_str.ensures.value at c.in_ok-put_name.ensures.types)
    c.in_ok-put_geometry.ensures.types
    (rw c.deref.ensures.value at c.put_tags.ensures.types)

pub returns-clause-text : goal.returns-clause-text
returns-clause-text c = grind (arith, common_steps, features)
