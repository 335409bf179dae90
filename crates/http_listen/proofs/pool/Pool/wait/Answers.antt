use Rattle.http_listen.specs.Goes.{Goes}
use Rattle.http_listen.specs.Places.{peer_at}
use Rattle.http_listen.proofs.PoolLemmas.{passes_both, passes_stand}
use Rattle.http_listen.proofs.pool.Pool.wait.Goals.{then-eq, else-eq}
use Rattle.http_listen.proofs.pool.Pool.wait.Goals as goal

pub returns-then-passes : goal.returns-then-passes
returns-then-passes g c =
    let told = g.S.Talks.told in
    let marks = g.W.Logs.marks in
    let on : Goes told (marks c.args.log.now) (peer_at c.args.self.now.places) (marks c.watch_all.new.log) (peer_at c.wait-outcome.new.places) =
    passes_both told c.watch_all.ensures.goes (passes_stand told c.wait-outcome.ensures.stand) in
    let before : Goes told (marks c.args.log.now) (peer_at c.args.self.now.places) (marks c.watch_all.new.log) (peer_at c.if-eq.self.places) =
    elim c.if-eq.branch [
      | then-eq w ↦ rw w.self-is on
      | else-eq w ↦ rw w.self-is on
    ] in
    record { goes = before }

pub returns-else-passes : goal.returns-else-passes
returns-else-passes g c =
    let told = g.S.Talks.told in
    let marks = g.W.Logs.marks in
    let on : Goes told (marks c.args.log.now) (peer_at c.args.self.now.places) (marks c.watch_all.new.log) (peer_at c.wait-outcome.new.places) =
    passes_both told c.watch_all.ensures.goes (passes_stand told c.wait-outcome.ensures.stand) in
    let before : Goes told (marks c.args.log.now) (peer_at c.args.self.now.places) (marks c.watch_all.new.log) (peer_at c.if-eq.self.places) =
    elim c.if-eq.branch [
      | then-eq w ↦ rw w.self-is on
      | else-eq w ↦ rw w.self-is on
    ] in
    record { goes = passes_both told before c.end_any.ensures.goes }

pub returns-then-left-eq0 : goal.returns-then-left-eq0
returns-then-left-eq0 g c =
    let told = g.S.Talks.told in
    record {
      goes = passes_both told (passes_both told c.watch_all.ensures.goes (passes_stand told c.wait-outcome.ensures.stand)) c.end_late.ensures.goes;
    }

pub returns-else-left-eq0 : goal.returns-else-left-eq0
returns-else-left-eq0 g c =
    let told = g.S.Talks.told in
    record { goes = passes_both told c.watch_all.ensures.goes (passes_stand told c.wait-outcome.ensures.stand) }
