use Rattle.map_replies.proofs.calls.Calls.end_whole.Goals as goal

pub returns-clause-ends : goal.returns-clause-ends
returns-clause-ends g c = (c.end_begun-outcome.result, c.published.ensures.reply, c.end_begun-outcome.ensures)
