use Rattle.std.proofs.Common.{drop}
use Rattle.whole_write.specs.Writes.{SoFar}
use Rattle.archive_commands.specs.Pieces.{pieces_text}
use Rattle.archive_commands.proofs.putting.put_pieces.Given as goal

abbrev pub invariant-loop-piece : goal.invariant-loop-piece
invariant-loop-piece g l = SoFar (g.W.Write.contents l.fn.out) (g.W.Write.contents l.out) (pieces_text l.pieces) (pieces_text (drop l.piece-index l.pieces))
