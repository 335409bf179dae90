use Rattle.http_listen.proofs.PoolLemmas.{passes_none}
use Rattle.http_listen.proofs.pool.Pool.end_any.Goals as goal

pub returns-in-None : goal.returns-in-None
returns-in-None g c = record { goes = passes_none g.S.Talks.told }
