use Rattle.std.proofs.Common.{sym, ◌∙◌, ap}
use Rattle.tile_service.specs.Service.{left_of}
use Rattle.map_replies.proofs.ReadyLemmas.{ready_of, told_places}
use Rattle.map_replies.proofs.calls.Calls.is_ready.Goals as goal

pub returns : goal.returns
returns g c = λ some.
    ready_of c.args.self.now.service left_of (λ d. d.places) (λ d. d.places) c.status-status.result.left c.drafting.result
    (sym (ap (λ s. s.broken) c.status-status.ensures) ∙ c.if-status.false)
    (ap (λ s. s.left) c.status-status.ensures) (sym c.is_some.ensures ∙ c.if-is_some.false)
    (told_places c.args.self.now.service.drafting c.drafting.result c.drafting.ensures)
    (sym c.is_some-2.ensures ∙ some)
