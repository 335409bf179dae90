use Rattle.tile_cutter.proofs.Ways.{turned_is}
use Rattle.tile_cutter.proofs.rings.turn.Goals as goal

pub returns : goal.returns
returns c = turned_is c.args.ring.now c.reverse.new.self c.reverse.ensures.after
