use Rattle.std.proofs.Common.{arith, lt_irrefl}
use Rattle.http_listen.specs.Places.{peer_at}
use Rattle.http_listen.proofs.Closing.{closed_below, closed_stays, closed_all}
use Rattle.http_listen.proofs.PoolLemmas.{passes_both, passes_none}
use Rattle.http_listen.proofs.pool.Pool.close_all.Goals as goal

pub closes-init : goal.closes-init
closes-init g c = (passes_none g.S.Talks.told, λ key lt. absurd (lt_irrefl 0 (omega (arith, lt))), λ key e. e)

pub closes-preserved : goal.closes-preserved
closes-preserved g c =
    let all = c.closes.invariant in
    let closed = c.close_at.ensures in
    let old = peer_at c.closes.self.places in
    let new = peer_at c.close_at.new.self.places in (
      passes_both g.S.Talks.told all.0 closed.goes,
      closed_below old new c.closes.key closed.none closed.others all.1,
      closed_stays old new c.closes.key closed.none closed.others (peer_at c.args.self.now.places) all.2,
    )

pub returns-clause-goes : goal.returns-clause-goes
returns-clause-goes g c = c.closes.invariant.0

pub returns-clause-none : goal.returns-clause-none
returns-clause-none g c =
    closed_all (peer_at c.args.self.now.places) (peer_at c.closes.self.places) c.closes.key c.key_bound-key-end.result c.closes-test.false
    c.key_bound-key-end.ensures c.closes.invariant.1 c.closes.invariant.2
