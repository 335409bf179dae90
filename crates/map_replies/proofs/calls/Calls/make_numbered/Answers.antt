use Rattle.std.proofs.Common.{◌≡◌, ◌+◌, ℕ, List, true, false, sym, ap, ◌∙◌, map}
use Rattle.feature_model.specs.Data.{change_data}
use Rattle.feature_store.specs.Digests.{map_digest}
use Rattle.http_serve.specs.Reply.{ReplyView}
use Rattle.tile_service.specs.Machine.{Happening, batched, edit, recorded_in}
use Rattle.tile_service.specs.Service.{status_of}
use Rattle.map_replies.specs.Digests.{agrees}
use Rattle.map_replies.specs.Meanings.{MeansEdit, IfAgrees, DiskFailed}
use Rattle.tile_service.proofs.Runs.Callers.{edit_step}
use Rattle.map_replies.proofs.NumberedEdits.{made_numbered, if_next, if_differs}
use Rattle.tile_service.proofs.Archive.Tickets.{held_edit}
use Rattle.map_replies.proofs.calls.Calls.make_numbered.Goals as goal

pub returns-clause-held : goal.returns-clause-held
returns-clause-held g c =
    let d = g.D.Sectors in
    λ place first held. held_edit d.sectors d.honest d.history place first c.args.self.now.oldest c.args.self.now.service held d.faults _ _ _ _
    c.batch-outcome.ensures.takes

pub returns-clause-answered : goal.returns-clause-answered
returns-clause-answered g c =
    let d = g.D.Sectors in
    let call = c.batch-outcome.ensures in
    let next : c.args.number ≡ c.args.self.now.service.journal.last + 1 = c.is_next.ensures.0 c.if-not-is_next.false
    ∙ ap (λ (n : ℕ). n + 1) c.last-last.ensures in
    let agreed : agrees c.args.query.now (map_digest c.args.self.now.service.features) ≡ true =
    ap (agrees c.args.query.now) (sym c.digest.ensures) ∙ sym c.agrees.ensures ∙ c.if-not-agrees.false in
    made_numbered d.sectors d.honest d.history _ _ c.args.query.now c.args.number (map change_data c.args.changes.items) _ _ c.batch-outcome.result _ next agreed
    c.outcome.ensures.reply call.takes.failed
    (edit_step d.sectors d.honest d.history d.faults _ _ batched _ c.batch-outcome.result call.machine call.takes)

pub returns-then-not-agrees-clause-answered : goal.returns-then-not-agrees-clause-answered
returns-then-not-agrees-clause-answered g c =
    let d = g.D.Sectors in
    let old = c.args.self.now.service in
    let query = c.args.query.now in
    let Asked : ReplyView → List Happening → Type 0 = MeansEdit (DiskFailed d.faults old old) (edit batched (recorded_in old.version (map change_data c.args.changes.items))) in
    let next : c.args.number ≡ old.journal.last + 1 = c.is_next.ensures.0 c.if-not-is_next.false ∙ ap (λ (n : ℕ). n + 1) c.last-last.ensures in
    let other : agrees query (map_digest old.features) ≡ false =
    ap (agrees query) (sym c.digest.ensures) ∙ sym c.agrees.ensures ∙ c.if-not-agrees.true in
    if_next d.sectors d.honest d.history c.args.number (IfAgrees (status_of old) query Asked) old old _ next
    (if_differs d.sectors d.honest d.history query Asked old _ other c.refusal.ensures.reply)
