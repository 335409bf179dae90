use Rattle.std.proofs.lemmas.Result.{err_from_is_err_and}
use Rattle.archive_commands.specs.Pieces.{pieces_text}
use Rattle.archive_commands.proofs.PutLaws.{pieces_on, pieces_fault}
use Rattle.archive_commands.proofs.putting.put_pieces.Goals as goal

pub returns-in_err-put_piece : goal.returns-in_err-put_piece
returns-in_err-put_piece g c =
    let p = err_from_is_err_and c.from_residual.result c.from_residual.ensures.1 in
    rw (p.1) (pieces_fault (g.W.Write.contents c.args.out.now) (g.W.Write.contents c.loop-piece.out) (g.W.Write.contents c.put_piece.new.out)
    (pieces_text c.args.pieces.now) c.args.pieces.now c.loop-piece.piece-index _ c.loop-piece-test.true c.loop-piece.invariant c.in_err-put_piece.ensures)

pub loop-piece-preserved : goal.loop-piece-preserved
loop-piece-preserved g c =
    pieces_on (g.W.Write.contents c.args.out.now) (g.W.Write.contents c.loop-piece.out) (g.W.Write.contents c.put_piece.new.out)
    (pieces_text c.args.pieces.now) c.args.pieces.now c.loop-piece.piece-index _ c.loop-piece-test.true c.loop-piece.invariant c.in_ok-put_piece.ensures
