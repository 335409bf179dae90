use Rattle.std.proofs.Common.{inl, ◌∙◌, sym, ap, subst, List, ℕ}
use Rattle.feature_model.specs.Data.{feature_data, put}
use Rattle.tile_service.specs.Machine.{single, edit, recorded_change}
use Rattle.tile_service.proofs.Runs.Callers.{edit_step}
use Rattle.map_replies.specs.Bodies.{SaysFeature, HasBodyFault}
use Rattle.map_replies.specs.Meanings.{MeansEdit, MeansIf, DiskFailed}
use Rattle.map_replies.proofs.Answering.{body_said}
use Rattle.map_replies.proofs.ConditionLemmas.{edited_if, refused_if}
use Rattle.tile_service.proofs.Archive.Tickets.{held_edit}
use Rattle.map_replies.proofs.calls.Calls.put.Goals as goal

pub returns-clause-answered : goal.returns-clause-answered
returns-clause-answered g c =
    let d = g.D.Sectors in
    let call = c.put-outcome.ensures in
    let old = c.args.self.now.service in
    let e = recorded_change old.version (put c.args.id (feature_data c.in-Ok.feature)) in
    body_said d.sectors d.honest d.history (SaysFeature c.args.body.now) (HasBodyFault c.args.body.now)
    (λ f. MeansIf c.args.needed c.args.id (MeansEdit (DiskFailed d.faults old c.put-outcome.new.self)
    (edit single (recorded_change old.version (put c.args.id f)))))
    (feature_data c.in-Ok.feature) old c.put-outcome.new.self _ c.in-Ok.ensures.found
    (edited_if d.sectors d.honest d.history c.args.id old c.args.needed _ _ (edit single e) c.put-outcome.new.self c.put-outcome.result _
    (sym c.meets.ensures ∙ c.if-not-meets.false) c.outcome.ensures.reply call.takes.failed
    (edit_step d.sectors d.honest d.history d.faults _ _ single e c.put-outcome.result call.machine call.takes))

pub returns-then-not-meets-clause-answered : goal.returns-then-not-meets-clause-answered
returns-then-not-meets-clause-answered g c =
    let d = g.D.Sectors in
    let old = c.args.self.now.service in
    body_said d.sectors d.honest d.history (SaysFeature c.args.body.now) (HasBodyFault c.args.body.now)
    (λ f. MeansIf c.args.needed c.args.id (MeansEdit (DiskFailed d.faults old old) (edit single (recorded_change old.version (put c.args.id f)))))
    (feature_data c.in-Ok.feature) old old _ c.in-Ok.ensures.found
    (refused_if d.sectors d.honest d.history c.args.id _ old c.args.needed (sym c.meets.ensures ∙ c.if-not-meets.true))

pub returns-clause-held : goal.returns-clause-held
returns-clause-held g c =
    let d = g.D.Sectors in
    λ place first held. held_edit d.sectors d.honest d.history place first c.args.self.now.oldest c.args.self.now.service held d.faults _ _ _ _
    c.put-outcome.ensures.takes
