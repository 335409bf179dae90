use Rattle.std.proofs.Common.{sym, subst}
use Rattle.map_replies.specs.declared.preparing.PreparingReplies.{PreparingReplies}
use Rattle.map_replies.specs.Preparing.{PreparesFor}
use Rattle.map_replies.proofs.confirming.ConfirmedRepliesPrepares.prepare.Goals as goal

pub returns-then-is_standby-clause-prepared : goal.returns-then-is_standby-clause-prepared
returns-then-is_standby-clause-prepared g c =
    (rw (sym c.note-is_standby.ensures.inner) c.prepare-prepared.ensures.prepared, c.note-is_standby.ensures.hears)

pub returns-else-is_standby-clause-prepared : goal.returns-else-is_standby-clause-prepared
returns-else-is_standby-clause-prepared g c =
    let d = g.D.Sectors in (
      subst (λ (inner : PreparingReplies _). PreparesFor d.sectors d.honest d.history d.faults inner c.args.connection c.args.request.now
          c.prepare-prepared.new.self) c.note-is_standby.ensures.inner c.prepare-prepared.ensures.prepared,
      c.note-is_standby.ensures.hears,
    )
