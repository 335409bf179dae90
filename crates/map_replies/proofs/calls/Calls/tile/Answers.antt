use Rattle.map_replies.specs.Words.{content_reply}
use Rattle.map_replies.proofs.TileLemmas.{plain_tile}
use Rattle.map_replies.proofs.calls.Calls.tile.Goals as goal

pub returns-in-None-clause-answered : goal.returns-in-None-clause-answered
returns-in-None-clause-answered g c =
    let d = g.D.Sectors in
    rw c.in-None.is (plain_tile d.sectors d.honest d.history c.args.at.z c.args.at.x c.args.at.y c.args.format c.args.self.now.service
    c.cut_tile.new.self.service c.cut_tile.result c.cut_tile.ensures.shown)

pub returns-in-Some-clause-answered : goal.returns-in-Some-clause-answered
returns-in-Some-clause-answered g c = rw c.in-Some.is c.tagged_tile.ensures.answered
