use Rattle.std.proofs.Common.{◌++◌, ap, ◌∙◌}
use Rattle.feature_model.specs.Data.{feature_data, put}
use Rattle.feature_model.specs.Spelled.{spelled_change}
use Rattle.edit_text.proofs.StoredTexts.{stored}
use Rattle.edit_text.proofs.stored.StoredFeature.of.Goals as goal

pub invariant_of-result : goal.invariant_of-result
invariant_of-result c =
    let whole = spelled_change (put c.args.id (feature_data c.args.feature.now)) in
    (stored c.append_put.new.out.items c.args.id (feature_data c.args.feature.now) c.requires c.in_ok-append_put.ensures.types
    (c.in_ok-append_put.ensures.text ∙ ap (λ front. front ++ whole) c.in_ok-text.ensures.items)).0

pub returns : goal.returns
returns c =
    let whole = spelled_change (put c.args.id (feature_data c.args.feature.now)) in
    (stored c.append_put.new.out.items c.args.id (feature_data c.args.feature.now) c.requires c.in_ok-append_put.ensures.types
    (c.in_ok-append_put.ensures.text ∙ ap (λ front. front ++ whole) c.in_ok-text.ensures.items)).1
