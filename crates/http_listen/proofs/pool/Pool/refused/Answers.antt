use Rattle.http_listen.proofs.PoolLemmas.{passes_none}
use Rattle.http_listen.proofs.pool.Pool.refused.Goals as goal

pub returns-in-Empty : goal.returns-in-Empty
returns-in-Empty g c = record { goes = passes_none g.S.Talks.told }

pub returns-in-Passing : goal.returns-in-Passing
returns-in-Passing g c = record { goes = passes_none g.S.Talks.told }
