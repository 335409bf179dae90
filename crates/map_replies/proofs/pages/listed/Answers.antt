use Rattle.map_replies.proofs.PageLemmas.{ok_some}
use Rattle.map_replies.proofs.pages.listed.Goals as goal

pub returns-clause-some : goal.returns-clause-some
returns-clause-some c = ok_some c.numbered_body.result c.deref.result.now c.args.id c.numbered_body.ensures
