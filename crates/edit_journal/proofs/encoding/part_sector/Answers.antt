use Rattle.std.proofs.Common.{arith}
use Rattle.edit_journal.proofs.Fronts.{put_twice, piece_fits}
use Rattle.edit_journal.proofs.encoding.part_sector.Goals as goal

pub put_bytes-requires-2 : goal.put_bytes-requires-2
put_bytes-requires-2 c = omega (arith, piece_fits c.args.text.now c.args.part c.piece_of.result.now c.piece_of.ensures)

pub returns : goal.returns
returns c = put_twice _ c.args.number c.args.text.now c.args.part c.front_bytes.result c.piece_of.result.now c.put_bytes.new.sector c.put_bytes-2.new.sector
    c.front_bytes.ensures c.piece_of.ensures c.put_bytes.ensures c.put_bytes-2.ensures
