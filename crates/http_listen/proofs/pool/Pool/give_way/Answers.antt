use Rattle.http_listen.proofs.PoolLemmas.{passes_both, passes_stand}
use Rattle.http_listen.proofs.pool.Pool.give_way.Goals as goal

pub returns-then-is_err : goal.returns-then-is_err
returns-then-is_err g c = record { goes = passes_stand g.S.Talks.told c.wait.ensures.stand }

pub returns-in-Some : goal.returns-in-Some
returns-in-Some g c = record { goes = passes_both g.S.Talks.told (passes_stand g.S.Talks.told c.wait.ensures.stand) c.end_at.ensures }

pub returns-in_default : goal.returns-in_default
returns-in_default g c = record { goes = passes_stand g.S.Talks.told c.wait.ensures.stand }
