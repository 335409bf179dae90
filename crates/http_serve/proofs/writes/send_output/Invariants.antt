use Rattle.std.proofs.Common.{◌≡◌, ◌++◌, List, ℕ, length}
use Rattle.std.specs.Io.KnownBytes.{Appends}
use Rattle.http_serve.proofs.writes.send_output.Given as goal

abbrev pub invariant-pieces : goal.invariant-pieces
invariant-pieces g l = record {
  written : (sent : List ℕ) × Appends (g.W.Write.contents l.fn.writer) (g.W.Write.contents l.writer) sent
      × (l.fn.connection.output ≡ sent ++ l.connection.output);
  input : l.connection.input ≡ l.fn.connection.input;
  reserved : l.connection.reserved ≡ l.fn.connection.reserved;
}

abbrev pub decreases-pieces : goal.decreases-pieces
decreases-pieces g l = length l.connection.output
