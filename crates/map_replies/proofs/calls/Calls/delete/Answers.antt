use Rattle.std.proofs.Common.{◌∙◌, sym}
use Rattle.feature_model.specs.Data.{delete}
use Rattle.tile_service.specs.Machine.{single, recorded_change, edit}
use Rattle.tile_service.proofs.Runs.Callers.{edit_step}
use Rattle.map_replies.specs.Meanings.{MeansEdit, MeansIf, DiskFailed}
use Rattle.map_replies.proofs.ConditionLemmas.{edited_if, refused_if, or_no_memory}
use Rattle.tile_service.proofs.Archive.Tickets.{held_edit}
use Rattle.map_replies.proofs.calls.Calls.delete.Goals as goal

pub returns-clause-answered : goal.returns-clause-answered
returns-clause-answered g c =
    let d = g.D.Sectors in
    let call = c.delete-outcome.ensures in
    let old = c.args.self.now.service in
    let e = recorded_change old.version (delete c.args.id) in
    or_no_memory d.sectors d.honest d.history
    (MeansIf c.args.needed c.args.id (MeansEdit (DiskFailed d.faults old c.delete-outcome.new.self) (edit single e))) old c.delete-outcome.new.self _
    (edited_if d.sectors d.honest d.history c.args.id old c.args.needed _ _ (edit single e) c.delete-outcome.new.self c.delete-outcome.result _
    (sym c.meets.ensures ∙ c.if-not-meets.false) c.outcome.ensures.reply call.takes.failed
    (edit_step d.sectors d.honest d.history d.faults _ _ single e c.delete-outcome.result call.machine call.takes))

pub returns-then-not-meets-clause-answered : goal.returns-then-not-meets-clause-answered
returns-then-not-meets-clause-answered g c =
    let d = g.D.Sectors in
    let old = c.args.self.now.service in
    let e = recorded_change old.version (delete c.args.id) in
    or_no_memory d.sectors d.honest d.history (MeansIf c.args.needed c.args.id (MeansEdit (DiskFailed d.faults old old) (edit single e))) old old _
    (refused_if d.sectors d.honest d.history c.args.id _ old c.args.needed (sym c.meets.ensures ∙ c.if-not-meets.true))

pub returns-clause-held : goal.returns-clause-held
returns-clause-held g c =
    let d = g.D.Sectors in
    λ place first held. held_edit d.sectors d.honest d.history place first c.args.self.now.oldest c.args.self.now.service held d.faults _ _ _ _
    c.delete-outcome.ensures.takes
