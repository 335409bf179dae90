use Rattle.std.proofs.Common.{ap, ◌∙◌}
use Rattle.tile_routes.specs.Methods.{method_on}
use Rattle.map_replies.specs.Conditions.{ask_of}
use Rattle.map_replies.specs.Preparing.{calls_publication}
use Rattle.map_replies.specs.State.{tags_of}
use Rattle.map_replies.proofs.preparing.PreparingReplies.is_to_publish.Goals as goal

pub returns : goal.returns
returns g c =
    c.is_call.ensures ∙ ap (λ a. calls_publication a (method_on c.args.request.now.method a) (ask_of (tags_of c.args.self.now.replies) c.args.request.now))
    c.requires.asked
