use Rattle.std.proofs.Common.{arith, ◌-◌}
use Rattle.hilbert_id.proofs.Powers.{shift_64, four_next, four_below}
use Rattle.tile_walk.proofs.squares.quarter_tiles.Goals as goal

pub returns-clause-quarter : goal.returns-clause-quarter
returns-clause-quarter c = shift_64 (c.args.zoom - 1) (omega arith)

pub returns-clause-whole : goal.returns-clause-whole
returns-clause-whole c = rw (shift_64 (c.args.zoom - 1) (omega arith)) (four_next c.args.zoom (omega arith))

pub returns-clause-small : goal.returns-clause-small
returns-clause-small c = rw (shift_64 (c.args.zoom - 1) (omega arith)) (four_below (c.args.zoom - 1) (omega arith))
