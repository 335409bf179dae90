use Rattle.http_listen.proofs.PoolLemmas.{passes_stand}
use Rattle.http_listen.proofs.pool.Pool.late_at.Goals as goal

pub returns-then-rests : goal.returns-then-rests
returns-then-rests g c = record { goes = passes_stand g.S.Talks.told c.wake.ensures.stands }
