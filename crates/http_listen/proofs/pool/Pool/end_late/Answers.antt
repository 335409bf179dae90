use Rattle.http_listen.proofs.PoolLemmas.{passes_both, passes_none}
use Rattle.http_listen.proofs.pool.Pool.end_late.Goals.{then-deadline-time, else-deadline-time}
use Rattle.http_listen.proofs.pool.Pool.end_late.Goals as goal

pub looks-init : goal.looks-init
looks-init g c = passes_none g.S.Talks.told

pub looks-preserved : goal.looks-preserved
looks-preserved g c =
    elim c.if-deadline-time.branch [
      | then-deadline-time w ↦ rw (w.log-is, w.self-is) (passes_both g.S.Talks.told c.looks.invariant w.late_at.ensures.goes)
      | else-deadline-time w ↦ rw (w.log-is, w.self-is) c.looks.invariant
    ]
