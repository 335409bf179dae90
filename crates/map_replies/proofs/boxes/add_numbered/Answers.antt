use Rattle.std.proofs.Common.{ap, ◌∙◌}
use Rattle.std.specs.Option.{is_some}
use Rattle.std.proofs.lemmas.Bool.{false≢true}
use Rattle.edit_text.specs.Views.{feature_view}
use Rattle.map_replies.proofs.BoxLemmas.{ok_added}
use Rattle.map_replies.proofs.boxes.add_numbered.Goals as goal

pub returns-in-Some : goal.returns-in-Some
returns-in-Some g c =
    ok_added c.add_feature.result c.args.service.now.features c.args.id (c.in-Some.number, feature_view c.in-Some.feature) c.args.text.now.items
    c.add_feature.new.text.items c.args.more c.in-Some.ensures.found c.add_feature.ensures.items c.add_feature.ensures.size

pub returns-in-None : goal.returns-in-None
returns-in-None g c = λ e is. absurd (false≢true (ap is_some (c.in-None.ensures.found ∙ is)))
