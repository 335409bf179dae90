use Rattle.tile_walk.proofs.Tiles.{four_left, four_lighter}
use Rattle.tile_walk.proofs.squares.quarters_of.Goals as goal

pub returns-clause-left : goal.returns-clause-left
returns-clause-left c =
    four_left c.args.square.now c.requires.cut.some c.in_ok-quarters.quarters.items c.push_quarter.new.squares.items c.push_quarter-2.new.squares.items
    c.push_quarter-3.new.squares.items c.push_quarter-4.new.squares.items c.in_ok-quarters.ensures.items
    c.in_ok-push_quarter.ensures.left c.in_ok-push_quarter-2.ensures.left c.in_ok-push_quarter-3.ensures.left c.in_ok-push_quarter-4.ensures.left

pub returns-clause-weight : goal.returns-clause-weight
returns-clause-weight c =
    four_lighter c.args.square.now c.requires.cut.some c.in_ok-quarters.quarters.items c.push_quarter.new.squares.items c.push_quarter-2.new.squares.items
    c.push_quarter-3.new.squares.items c.push_quarter-4.new.squares.items c.in_ok-quarters.ensures.items
    c.in_ok-push_quarter.ensures.weight c.in_ok-push_quarter-2.ensures.weight c.in_ok-push_quarter-3.ensures.weight c.in_ok-push_quarter-4.ensures.weight
