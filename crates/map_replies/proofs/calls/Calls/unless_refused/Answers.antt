use Rattle.std.proofs.Common.{◌∙◌, refl, sym}
use Rattle.tile_routes.specs.Targets.{asked_of}
use Rattle.map_replies.specs.Conditions.{ask_view}
use Rattle.map_replies.proofs.SendingLemmas.{answered_on, allowed_answers, refused_answers}
use Rattle.map_replies.proofs.calls.Calls.unless_refused.Goals as goal

pub returns-clause-answered : goal.returns-clause-answered
returns-clause-answered g c =
    let d = g.D.Sectors in
    let free = sym c.refuses.ensures ∙ c.if-refuses.false in
    answered_on _ _ _ _ c.allowed.result
    (λ view is. allowed_answers d.sectors d.honest d.history d.faults (asked_of c.args.target) c.args.method (ask_view c.args.ask) c.args.body.now
    c.args.self.now.service c.allowed.new.self.service view free is)
    (λ view is. (c.args.method, refl, free, is)) c.allowed.ensures.answered

pub returns-then-refuses-clause-answered : goal.returns-then-refuses-clause-answered
returns-then-refuses-clause-answered g c =
    let d = g.D.Sectors in
    refused_answers d.sectors d.honest d.history d.faults (asked_of c.args.target) c.args.method (ask_view c.args.ask) c.args.body.now
    c.args.self.now.service (sym c.refuses.ensures ∙ c.if-refuses.true)
