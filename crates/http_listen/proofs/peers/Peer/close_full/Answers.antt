use Rattle.std.proofs.Common.{rules, ◌≡◌, None, ap}
use Rattle.http_listen.specs.declared.peers.State.{State}
use Rattle.http_listen.proofs.HeldLemmas.{end_closed}
use Rattle.http_listen.proofs.PoolLemmas.{closes_then}
use Rattle.http_listen.proofs.StepLemmas.{none_of}
use Rattle.http_listen.proofs.peers.Peer.close_full.Goals as goal

pub returns-then-is_some : goal.returns-then-is_some
returns-then-is_some g c = record { last = c.args.self.stream; adds = c.close.ensures; talk = λ first acts h. h.talk }

pub returns : goal.returns
returns g c =
    let told = g.S.Talks.told in
    let old = c.args.self in
    let new = c.refuse_memory.new.self in
    let opened : old.state.drops ≡ None = none_of old.state.drops (search rules) in
    closes_then told old new c.log_end.ensures.same (ap (λ (t : State). t.number) c.refuse_memory.ensures.state)
    (λ first acts h. end_closed told first acts old new h opened c.refuse_memory.ensures.ends) c.close-2.ensures
