use Rattle.std.proofs.Common.{rules, ◌≡◌, None, ap, sym, ◌∙◌}
use Rattle.http_listen.specs.Places.{taken_out}
use Rattle.http_listen.proofs.PoolLemmas.{passes_both, passes_empty, passes_gone, passes_none, passes_out, passes_rest, passes_take, passes_turn}
use Rattle.http_listen.proofs.pool.Pool.give_turn.Goals.{in-Rests, in-Closes}
use Rattle.http_listen.proofs.pool.Pool.give_turn.Goals as goal

pub returns-in_err-self-clause-goes : goal.returns-in_err-self-clause-goes
returns-in_err-self-clause-goes g c =
    let none : c.from_residual.result ≡ None = search rules in
    rw none (passes_none g.S.Talks.told)

pub returns-in_err-key-clause-goes : goal.returns-in_err-key-clause-goes
returns-in_err-key-clause-goes g c =
    let none : c.from_residual-in_err-key.result ≡ None = search rules in
    rw none (passes_none g.S.Talks.told)

pub returns-in_err-peer-clause-goes : goal.returns-in_err-peer-clause-goes
returns-in_err-peer-clause-goes g c =
    let none : c.from_residual-in_err-peer.result ≡ None = search rules in
    let absent : c.take.result ≡ None = search rules in
    rw none (passes_empty g.S.Talks.told c.in_ok-key.key (sym c.take.ensures.taken ∙ ap taken_out absent) c.take.ensures.none c.take.ensures.others)

pub returns-in-Asks-clause-goes : goal.returns-in-Asks-clause-goes
returns-in-Asks-clause-goes g c =
    let told = g.S.Talks.told in
    passes_both told (passes_take told c.in_ok-key.key c.in_ok-peer.peer.value (sym c.in_ok-peer.ensures.taken) c.take.ensures.none c.take.ensures.others)
    (passes_out told c.in_ok-peer.peer.value c.take_turn.new.self (rw c.deref_mut.ensures.value at c.in-Asks.ensures.0) c.in-Asks.ensures.3)

pub returns-in-Reads-clause-goes : goal.returns-in-Reads-clause-goes
returns-in-Reads-clause-goes g c =
    let told = g.S.Talks.told in
    passes_both told (passes_take told c.in_ok-key.key c.in_ok-peer.peer.value (sym c.in_ok-peer.ensures.taken) c.take.ensures.none c.take.ensures.others)
    (passes_out told c.in_ok-peer.peer.value c.take_turn.new.self (rw c.deref_mut.ensures.value at c.in-Reads.ensures.0) c.in-Reads.ensures.3)

pub returns-clause-goes : goal.returns-clause-goes
returns-clause-goes g c =
    let told = g.S.Talks.told in
    let peer = c.in_ok-peer.peer.value in
    let now = c.take_turn.new.self in
    passes_both told (passes_take told c.in_ok-key.key peer (sym c.in_ok-peer.ensures.taken) c.take.ensures.none c.take.ensures.others)
    (
    elim c.match-take_turn.branch [
      | in-Rests w ↦ rw (w.log-is, w.self-is) (
          passes_both told (passes_rest told peer now w.in-Rests.ending (rw c.deref_mut.ensures.value at w.in-Rests.ensures)) w.keep_or_end.ensures
          )
      | in-Closes w ↦ rw (w.log-is, w.self-is) (
          passes_both told (passes_turn told peer now ⊥ (rw c.deref_mut.ensures.value at w.in-Closes.ensures))
          (passes_gone told now _ (rw w.into_inner.ensures at w.close.ensures))
          )
    ]
    )
