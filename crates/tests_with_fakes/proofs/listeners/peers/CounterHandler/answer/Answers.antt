use Rattle.std.proofs.Common.{[]}
use Rattle.http_serve.specs.Reply.{reply_view}
use Rattle.http_serve.proofs.HandlerLemmas.{none_in_parts, whole_reply}
use Rattle.tests_with_fakes.proofs.listeners.peers.CounterHandler.answer.Goals as goal

pub returns-clause-replied : goal.returns-clause-replied
returns-clause-replied c =
    let none = c.reply_of.ensures.1 in
    (reply_view [] c.reply_of.result, whole_reply c.reply_of.result none, tt, none_in_parts c.reply_of.result.content _ none)
