use Rattle.std.proofs.Common.{[], refl}
use Rattle.http_serve.specs.Reply.{reply_view}
use Rattle.http_serve.proofs.HandlerLemmas.{none_in_parts, whole_reply}
use Rattle.tests_with_fakes.proofs.connections.EchoHandler.answer.Goals as goal

pub returns-clause-replied : goal.returns-clause-replied
returns-clause-replied c =
    let none = c.echo_reply.ensures.1 in
    (reply_view [] c.echo_reply.result, whole_reply c.echo_reply.result none, refl, none_in_parts c.echo_reply.result.content _ none)
