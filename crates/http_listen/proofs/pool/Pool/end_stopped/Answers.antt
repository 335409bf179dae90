use Rattle.http_listen.proofs.PoolLemmas.{passes_both, passes_none}
use Rattle.http_listen.proofs.pool.Pool.end_stopped.Goals as goal

pub returns-then-not-self : goal.returns-then-not-self
returns-then-not-self g c = record { goes = passes_none g.S.Talks.told }

pub ends-init : goal.ends-init
ends-init g c = passes_none g.S.Talks.told

pub ends-preserved : goal.ends-preserved
ends-preserved g c =
    passes_both g.S.Talks.told (passes_both g.S.Talks.told c.ends.invariant c.end_at.ensures) c.end_at-in-ends.ensures
