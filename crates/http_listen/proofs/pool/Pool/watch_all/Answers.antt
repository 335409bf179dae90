use Rattle.http_listen.specs.Goes.{Goes}
use Rattle.http_listen.specs.Places.{peer_at}
use Rattle.http_listen.proofs.PoolLemmas.{passes_both, passes_none, passes_stand}
use Rattle.http_listen.proofs.pool.Pool.watch_all.Goals.{then-not-watch, else-not-watch}
use Rattle.http_listen.proofs.pool.Pool.watch_all.Goals as goal

pub watches-init : goal.watches-init
watches-init g c = passes_none g.S.Talks.told

pub watches-preserved : goal.watches-preserved
watches-preserved g c =
    let told = g.S.Talks.told in
    let marks = g.W.Logs.marks in
    let on : Goes told (marks c.args.log.now) (peer_at c.args.self.now.places) (marks c.watches.log) (peer_at c.watch.new.self) =
    passes_both told c.watches.invariant (passes_stand told c.watch.ensures) in
    elim c.if-not-watch.branch [
      | then-not-watch w ↦ rw (w.log-is, w.self-is) (passes_both told on w.end_at.ensures)
      | else-not-watch w ↦ rw (w.log-is, w.self-is) on
    ]
