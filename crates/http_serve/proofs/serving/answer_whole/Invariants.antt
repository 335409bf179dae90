use Rattle.std.proofs.Common.{◌≡◌, [], length}
use Rattle.std.specs.Prelude.{IsTrue}
use Rattle.http_serve.specs.Served.{Carries}
use Rattle.http_serve.proofs.serving.answer_whole.Given as goal

abbrev pub invariant-requests : goal.invariant-requests
invariant-requests g l = record {
  sent : l.connection.output ≡ [];
  reserved : IsTrue l.connection.reserved;
  length : length l.part ≡ length l.fn.part;
  carries : Carries g.H.Handler.replies l.fn.handler l.fn.connection.input (g.W.Write.contents l.fn.writer) l.fn.requests
      l.handler l.connection.input (g.W.Write.contents l.writer) l.requests;
}

abbrev pub decreases-requests : goal.decreases-requests
decreases-requests g l = length l.connection.input
