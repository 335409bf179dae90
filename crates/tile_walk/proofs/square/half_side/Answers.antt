use Rattle.std.proofs.Common.{arith, ◌-◌}
use Rattle.hilbert_id.proofs.Powers.{shift_32, two_below}
use Rattle.tile_walk.proofs.square.half_side.Goals as goal

pub returns-clause-small : goal.returns-clause-small
returns-clause-small c = omega (arith, shift_32 (c.args.zoom - 1) (omega arith), two_below (c.args.zoom - 1) 30 (omega arith))
