use Rattle.std.proofs.Common.{◌≡◌, [], ◌≤◌, ◌<◌, ◌*◌, length}
use Rattle.http_requests.specs.declared.frames.TheConstants.{MAX_REQUEST}
use Rattle.http_serve.specs.Buffers.{buffer_size}
use Rattle.http_serve.specs.Told.{LosesAtMost}
use Rattle.http_serve.proofs.ServeLemmas.{Adds, IsSoFar}
use Rattle.http_serve.proofs.serving.serve_session.Given as goal

abbrev pub invariant-loop-turn : goal.invariant-loop-turn
invariant-loop-turn g l = record {
  sent : l.session.connection.output ≡ [];
  within : l._turn ≤ l.fn.turns;
  reads : Adds g.R.Read.remaining l._turn l.fn.reader l.reader;
  most : LosesAtMost (l._turn * buffer_size) (g.R.Read.remaining l.fn.reader) (g.R.Read.remaining l.reader);
  few : length l.session.connection.input < MAX_REQUEST;
  so_far : IsSoFar g.H.Handler.replies l.fn.handler (g.R.Read.remaining l.fn.reader) (g.W.Write.contents l.fn.writer)
      l.handler (g.R.Read.remaining l.reader) (g.W.Write.contents l.writer) l.requests l.session.connection.input l.reason;
}
