use Rattle.http_listen.proofs.PoolLemmas.{passes_none}
use Rattle.http_listen.proofs.pool.Pool.accept.Goals as goal

pub returns-then-count-min-clause-goes : goal.returns-then-count-min-clause-goes
returns-then-count-min-clause-goes g c = passes_none g.S.Talks.told
