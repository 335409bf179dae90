use Rattle.std.proofs.Common.{sym, subst}
use Rattle.edit_json.specs.Json.{json_of}
use Rattle.edit_text.specs.Views.{feature_view}
use Rattle.http_serve.specs.Reply.{ReplyView}
use Rattle.map_replies.specs.Bodies.{IsJson}
use Rattle.map_replies.proofs.showing.feature_value.Goals as goal

pub returns-in-Ok-clause-reads : goal.returns-in-Ok-clause-reads
returns-in-Ok-clause-reads c =
    subst (λ (reply : ReplyView). IsJson reply.content (json_of (feature_view c.args.feature))) (sym c.json.ensures.reply) c.in-Ok.ensures.reads
