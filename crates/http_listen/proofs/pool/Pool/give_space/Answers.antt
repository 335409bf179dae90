use Rattle.http_listen.proofs.PoolLemmas.{passes_both, passes_none, passes_stand}
use Rattle.http_listen.proofs.pool.Pool.give_space.Goals as goal

pub returns-then-not-is_full : goal.returns-then-not-is_full
returns-then-not-is_full g c = record { goes = passes_none g.S.Talks.told }

pub ends-init : goal.ends-init
ends-init g c = passes_both g.S.Talks.told (passes_stand g.S.Talks.told c.wake_resting.ensures.stands) c.watch_all.ensures.goes

pub ends-preserved : goal.ends-preserved
ends-preserved g c = passes_both g.S.Talks.told c.ends.invariant c.end_at.ensures
