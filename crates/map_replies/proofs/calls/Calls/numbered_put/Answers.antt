use Rattle.std.proofs.Common.{◌≡◌, ◌+◌, ℕ, true, false, List, ◌∙◌, refl, sym, ap}
use Rattle.std.proofs.lemmas.Bool.{false≢true}
use Rattle.feature_model.specs.Data.{FeatureData, feature_data, put}
use Rattle.feature_store.specs.Digests.{map_digest}
use Rattle.http_serve.specs.Reply.{ReplyView}
use Rattle.tile_service.specs.Machine.{Happening, single, edit, recorded_change}
use Rattle.tile_service.specs.Service.{status_of}
use Rattle.tile_service.proofs.Archive.Tickets.{held_edit}
use Rattle.tile_service.proofs.Runs.Callers.{edit_step}
use Rattle.map_replies.specs.Bodies.{SaysFeature, HasBodyFault}
use Rattle.map_replies.specs.Digests.{agrees}
use Rattle.map_replies.specs.Meanings.{MeansEdit, MeansIf, MeansNumberedChange, IfAgrees, DiskFailed}
use Rattle.map_replies.proofs.Answering.{body_said}
use Rattle.map_replies.proofs.ConditionLemmas.{edited_if, refused_if}
use Rattle.map_replies.proofs.NumberedEdits.{if_next, if_not_next, if_agrees, if_differs}
use Rattle.map_replies.proofs.calls.Calls.numbered_put.Goals as goal

pub returns-clause-answered : goal.returns-clause-answered
returns-clause-answered g c =
    let d = g.D.Sectors in
    let call = c.put-outcome.ensures in
    let old = c.args.self.now.service in
    let e = recorded_change old.version (put c.args.id (feature_data c.in-Ok.feature)) in
    let Asked : ReplyView → List Happening → Type 0 =
    MeansIf c.args.needed c.args.id (MeansEdit (DiskFailed d.faults old c.put-outcome.new.self) (edit single e)) in
    let agreed : agrees c.args.query.now (map_digest old.features) ≡ true =
    ap (agrees c.args.query.now) (sym c.digest.ensures) ∙ sym c.agrees.ensures ∙ c.if-not-agrees.false in
    let next : c.args.number ≡ old.journal.last + 1 =
    c.is_next.ensures.0 c.if-not-is_next.false ∙ ap (λ (n : ℕ). n + 1) c.last-last.ensures in
    body_said d.sectors d.honest d.history (SaysFeature c.args.body.now) (HasBodyFault c.args.body.now)
    (MeansNumberedChange (DiskFailed d.faults old c.put-outcome.new.self) (status_of old) c.args.query.now c.args.needed c.args.id c.args.number)
    (feature_data c.in-Ok.feature) old c.put-outcome.new.self _ c.in-Ok.ensures.found
    (if_next d.sectors d.honest d.history c.args.number (IfAgrees (status_of old) c.args.query.now Asked) old c.put-outcome.new.self _ next
    (if_agrees d.sectors d.honest d.history c.args.query.now Asked old c.put-outcome.new.self _ agreed
    (edited_if d.sectors d.honest d.history c.args.id old c.args.needed _ _ (edit single e) c.put-outcome.new.self c.put-outcome.result _
    (sym c.meets.ensures ∙ c.if-not-meets.false) c.outcome.ensures.reply call.takes.failed
    (edit_step d.sectors d.honest d.history d.faults _ _ single e c.put-outcome.result call.machine call.takes))))

pub returns-then-not-meets-clause-answered : goal.returns-then-not-meets-clause-answered
returns-then-not-meets-clause-answered g c =
    let d = g.D.Sectors in
    let old = c.args.self.now.service in
    let e = recorded_change old.version (put c.args.id (feature_data c.in-Ok.feature)) in
    let Asked : ReplyView → List Happening → Type 0 = MeansEdit (DiskFailed d.faults old old) (edit single e) in
    let agreed : agrees c.args.query.now (map_digest old.features) ≡ true =
    ap (agrees c.args.query.now) (sym c.digest.ensures) ∙ sym c.agrees.ensures ∙ c.if-not-agrees.false in
    let next : c.args.number ≡ old.journal.last + 1 =
    c.is_next.ensures.0 c.if-not-is_next.false ∙ ap (λ (n : ℕ). n + 1) c.last-last.ensures in
    body_said d.sectors d.honest d.history (SaysFeature c.args.body.now) (HasBodyFault c.args.body.now)
    (MeansNumberedChange (DiskFailed d.faults old old) (status_of old) c.args.query.now c.args.needed c.args.id c.args.number)
    (feature_data c.in-Ok.feature) old old _ c.in-Ok.ensures.found
    (if_next d.sectors d.honest d.history c.args.number (IfAgrees (status_of old) c.args.query.now (MeansIf c.args.needed c.args.id Asked)) old old _ next
    (if_agrees d.sectors d.honest d.history c.args.query.now (MeansIf c.args.needed c.args.id Asked) old old _ agreed
    (refused_if d.sectors d.honest d.history c.args.id Asked old c.args.needed (sym c.meets.ensures ∙ c.if-not-meets.true))))

pub returns-then-not-agrees-clause-answered : goal.returns-then-not-agrees-clause-answered
returns-then-not-agrees-clause-answered g c =
    let d = g.D.Sectors in
    let old = c.args.self.now.service in
    let query = c.args.query.now in
    let Asked : ReplyView → List Happening → Type 0 = MeansIf c.args.needed c.args.id
    (MeansEdit (DiskFailed d.faults old old) (edit single (recorded_change old.version (put c.args.id (feature_data c.in-Ok.feature))))) in
    let other : agrees query (map_digest old.features) ≡ false =
    ap (agrees query) (sym c.digest.ensures) ∙ sym c.agrees.ensures ∙ c.if-not-agrees.true in
    let next : c.args.number ≡ old.journal.last + 1 =
    c.is_next.ensures.0 c.if-not-is_next.false ∙ ap (λ (n : ℕ). n + 1) c.last-last.ensures in
    body_said d.sectors d.honest d.history (SaysFeature c.args.body.now) (HasBodyFault c.args.body.now)
    (MeansNumberedChange (DiskFailed d.faults old old) (status_of old) query c.args.needed c.args.id c.args.number)
    (feature_data c.in-Ok.feature) old old _ c.in-Ok.ensures.found
    (if_next d.sectors d.honest d.history c.args.number (IfAgrees (status_of old) query Asked) old old _ next
    (if_differs d.sectors d.honest d.history query Asked old _ other refl))

pub returns-then-not-is_next-clause-answered : goal.returns-then-not-is_next-clause-answered
returns-then-not-is_next-clause-answered g c =
    let d = g.D.Sectors in
    let old = c.args.self.now.service in
    body_said d.sectors d.honest d.history (SaysFeature c.args.body.now) (HasBodyFault c.args.body.now)
    (MeansNumberedChange (DiskFailed d.faults old old) (status_of old) c.args.query.now c.args.needed c.args.id c.args.number)
    (feature_data c.in-Ok.feature) old old _ c.in-Ok.ensures.found
    (if_not_next d.sectors d.honest d.history c.args.number c.last-last.result
    (IfAgrees (status_of old) c.args.query.now (MeansIf c.args.needed c.args.id (MeansEdit (DiskFailed d.faults old old)
    (edit single (recorded_change old.version (put c.args.id (feature_data c.in-Ok.feature))))))) old _
    (λ same. false≢true (sym c.if-not-is_next.true ∙ c.is_next.ensures.1 same)) c.last-last.ensures c.not_next.ensures.reply)

pub returns-clause-held : goal.returns-clause-held
returns-clause-held g c =
    let d = g.D.Sectors in
    λ place first held. held_edit d.sectors d.honest d.history place first c.args.self.now.oldest c.args.self.now.service held d.faults _ _ _ _
    c.put-outcome.ensures.takes
