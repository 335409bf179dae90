use Rattle.tile_service.specs.Machine.{check}
use Rattle.tile_service.specs.Service.{IsToldOf, status_of}
use Rattle.tile_service.proofs.Runs.Callers.{check_step}
use Rattle.map_replies.specs.Words.{status_reply}
use Rattle.map_replies.specs.Meanings.{DiskFailed, MeansChange}
use Rattle.map_replies.proofs.Answering.{changed_first, some_first}
use Rattle.tile_service.proofs.Archive.Tickets.{held_check}
use Rattle.map_replies.proofs.calls.Calls.status.Goals as goal
use Rattle.std.proofs.Common.{inl, ap, ◌∙◌}

pub returns-clause-answered : goal.returns-clause-answered
returns-clause-answered g c =
    let d = g.D.Sectors in
    let call = c.check.ensures in
    let told = c.drafting.result in
    let status = status_of c.check.new.self in
    some_first d.sectors d.honest d.history told (IsToldOf c.check.new.self.drafting)
    (λ told. MeansChange (DiskFailed d.faults c.args.self.now.service c.check.new.self) check (λ outcome. status_reply told status)) _ _ _
    c.drafting.ensures
    (changed_first d.sectors d.honest d.history _ _ check (λ outcome. status_reply told status) _ _ c.check.result _
    (c.told.ensures.reply ∙ ap (status_reply told) c.status.ensures) call.failed
    (check_step d.sectors d.honest d.history _ _ c.check.result call.machine (ap (λ s. s.size) call.same) (ap (λ s. s.touched) call.same)
    (inl (ap (λ s. s.drafting) call.same)) call.disk call.refused call.any_moment call.after call.archive call.edits))

pub returns-clause-held : goal.returns-clause-held
returns-clause-held g c =
    let d = g.D.Sectors in
    λ place first held. held_check d.sectors d.honest d.history place first c.args.self.now.oldest c.args.self.now.service held
    c.check.result _ c.check.ensures.same c.check.ensures.disk c.check.ensures.synced
