use Rattle.std.proofs.Common.{◌≡◌, None}
use Rattle.http_listen.proofs.PoolLemmas.{acts_then, passes_both, passes_less, passes_stand}
use Rattle.http_listen.proofs.connections.answer.Goals as goal

pub returns-clause-comes : goal.returns-clause-comes
returns-clause-comes g c = c.prepare_front-ending.ensures.comes

pub returns-clause-acted : goal.returns-clause-acted
returns-clause-acted g c =
    let told = g.S.Talks.told in
    let did = rw c.deref_mut.ensures.value at c.prepare_front-ending.ensures.acts in
    let now = c.prepare_front-ending.new.peer in (
      did.0,
      did.1,
      rw (← c.prepare_front-ending.ensures.places) (
          acts_then told c.args.peer.value now did.0 (c.prepare_front-ending.result.ending ≡ None) did.2
          (passes_both told (passes_both told (passes_less told now _ _ (λ e. e.0)) c.keep_or_end.ensures) (passes_stand told c.wake.ensures.stands))
          ),
    )
