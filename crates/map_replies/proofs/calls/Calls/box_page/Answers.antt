use Rattle.std.proofs.Common.{◌∙◌, ap}
use Rattle.map_replies.specs.Words.{json_reply}
use Rattle.map_replies.proofs.BoxLemmas.{box_told}
use Rattle.map_replies.proofs.calls.Calls.box_page.Goals as goal

pub returns-in-Ok-clause-answered : goal.returns-in-Ok-clause-answered
returns-in-Ok-clause-answered g c =
    let d = g.D.Sectors in
    let page = c.in-Ok.ensures in
    box_told d.sectors d.honest d.history c.args.self.now.service c.args.bounds.now c.args.id page.0 page.1 _ page.2 page.3
    (c.json.ensures.reply ∙ ap json_reply page.4)
