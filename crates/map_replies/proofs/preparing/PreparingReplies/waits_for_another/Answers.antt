use Rattle.std.proofs.Common.{refl}
use Rattle.map_replies.proofs.ReadyLemmas.{given_up, prepares_dropped, prepares_nothing}
use Rattle.map_replies.proofs.preparing.PreparingReplies.waits_for_another.Goals as goal

pub returns-then-is_owner-clause-prepares : goal.returns-then-is_owner-clause-prepares
returns-then-is_owner-clause-prepares g c =
    let d = g.D.Sectors in
    prepares_nothing d.sectors d.honest d.history d.faults c.args.self.now _ refl refl

pub returns-then-not-is_prepared-clause-prepares : goal.returns-then-not-is_prepared-clause-prepares
returns-then-not-is_prepared-clause-prepares g c =
    let d = g.D.Sectors in
    prepares_nothing d.sectors d.honest d.history d.faults c.args.self.now _ refl refl

pub returns-then-has_to_wait-clause-prepares : goal.returns-then-has_to_wait-clause-prepares
returns-then-has_to_wait-clause-prepares g c =
    let d = g.D.Sectors in
    prepares_nothing d.sectors d.honest d.history d.faults c.args.self.now _ refl refl

pub returns-then-is_some-clause-prepares : goal.returns-then-is_some-clause-prepares
returns-then-is_some-clause-prepares g c =
    let d = g.D.Sectors in
    given_up d.sectors d.honest d.history d.faults c.args.self.now _ c.give_up.ensures.gives_up

pub returns-clause-prepares : goal.returns-clause-prepares
returns-clause-prepares g c =
    let d = g.D.Sectors in
    prepares_dropped d.sectors d.honest d.history d.faults c.args.self.now _ refl refl c.publish_drop.ensures.same c.publish_drop.ensures.up
