use Rattle.std.proofs.Common.{◌-◌, ◌≡◌, ◌≤◌, length}
use Rattle.http_serve.proofs.PartLemmas.{IsSentTo}
use Rattle.http_serve.proofs.contents.send_each_part.Given as goal

abbrev pub invariant-loop-at : goal.invariant-loop-at
invariant-loop-at g l = record {
  behind : l.offset ≤ l.at;
  within : l.at ≤ l.size;
  length : length l.buffer ≡ length l.fn.buffer;
  size : g.H.Handler.size l.handler ≡ l.size;
  sent : IsSentTo g.H.Handler.replies g.H.Handler.sends l.offset l.at l.size l.fn.handler l.handler
      (g.W.Write.contents l.fn.writer) (g.W.Write.contents l.writer);
}

abbrev pub decreases-loop-at : goal.decreases-loop-at
decreases-loop-at g l = l.size - l.at
