use Rattle.std.proofs.Common.{◌≡◌, ℕ, arith}
use Rattle.std.proofs.lemmas.Grind.{common_steps}
use Rattle.http_listen.specs.Listeners.{after_events}
use Rattle.http_listen.specs.Places.{peer_at}
use Rattle.http_listen.proofs.StandLemmas.{all_stand_events}
use Rattle.http_listen.proofs.system_listener.SystemListenerWaits.wait.Goals as goal

pub returns-clause-comes : goal.returns-clause-comes
returns-clause-comes c = grind (arith, common_steps)

pub returns-clause-reported : goal.returns-clause-reported
returns-clause-reported c = grind (arith, common_steps)

pub returns-clause-stand : goal.returns-clause-stand
returns-clause-stand c =
    let events = c.into_iter-event-iterator.result.rest.now in
    let reported : (key : ℕ) → peer_at c.loop-event.places key ≡ after_events key events (peer_at c.args.places.now key) =
    λ key. grind (arith, common_steps, c.loop-event.invariant.reported key) in
    all_stand_events events (peer_at c.args.places.now) (peer_at c.loop-event.places) reported
