use Rattle.std.proofs.Common.{◌≡◌, inl, [], Result, Ok, Err, refl, sym, ap, subst, ◌∙◌}
use Rattle.tile_routes.specs.declared.fault.RouteFault.{RouteFault}
use Rattle.tile_routes.specs.declared.fault.RouteFault.TheVariants as routes
use Rattle.tile_routes.specs.declared.method.Method.{Method}
use Rattle.tile_routes.specs.Targets.{asked_of}
use Rattle.map_replies.specs.Conditions.{ask_view}
use Rattle.map_replies.specs.Meanings.{AnswersMethod}
use Rattle.map_replies.specs.Sending.{IsAnsweredInParts, SendsMethod}
use Rattle.map_replies.proofs.SendingLemmas.{whole_is}
use Rattle.map_replies.proofs.calls.Calls.respond.Goals as goal

pub returns-in-Ok-clause-answered : goal.returns-in-Ok-clause-answered
returns-in-Ok-clause-answered g c = rw c.in-Ok.is c.unless_refused.ensures.answered

-- what holds of a method that the path doesn't allow
of_not_allowed : (P : Result Method RouteFault → Type 0) (method : Result Method RouteFault) (fault : RouteFault) → method ≡ Err fault
    → fault ≡ routes.NotAllowed → P (Err routes.NotAllowed) → P method
of_not_allowed P method fault is same holds =
    subst P (sym (is ∙ ap (λ (f : RouteFault). Err f) same)) holds

pub returns-in-Err-NotAllowed-clause-answered : goal.returns-in-Err-NotAllowed-clause-answered
returns-in-Err-NotAllowed-clause-answered g c =
    let d = g.D.Sectors in
    let old = c.args.self.now.service in
    let sending = c.args.self.now.sending in
    let asked = asked_of c.args.target in
    let ask = ask_view c.args.ask in
    let body = c.args.body.now in
    let same : c.in-Err-NotAllowed.field-0 ≡ routes.NotAllowed = rw c.in-Err-NotAllowed.is at c.in-Err-NotAllowed.field-0-is in
    of_not_allowed
    (λ m. IsAnsweredInParts (AnswersMethod d.sectors d.honest d.history d.faults asked m ask body old old)
    (SendsMethod d.sectors d.honest d.history d.faults asked m ask old sending old) (Ok c.not_allowed.result))
    _ _ c.in-Err-NotAllowed.is same
    (whole_is _ _ c.not_allowed.result c.not_allowed.ensures.writable ([], (c.not_allowed.ensures.reply, refl), refl))

pub returns-in-Err-NotAllowed-clause-oldest : goal.returns-in-Err-NotAllowed-clause-oldest
returns-in-Err-NotAllowed-clause-oldest g c = inl refl
