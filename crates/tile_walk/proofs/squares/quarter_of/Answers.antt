use Rattle.std.proofs.lemmas.Grind.{common_steps}
use Rattle.std.proofs.Common.{◌-◌, ◌^◌, refl, arith}
use Rattle.tile_walk.proofs.Tiles.{placed_quarter}
use Rattle.tile_walk.specs.Squares.{tiles_of}
use Rattle.tile_walk.proofs.squares.quarter_of.Goals as goal

pub returns-clause-tiles : goal.returns-clause-tiles
unfolding tiles_of
returns-clause-tiles c =
    let s = c.args.square.now in
    placed_quarter c.args.quarter s s.boxes.items c.args.boxes.items c.order_of.result c.quarter_tiles-tiles.result (2 ^ (s.zoom - 1)) refl
    c.order_of.ensures.order c.quarter_tiles-tiles.ensures.quarter refl c.requires.placed

pub overflow_mul-result : goal.overflow_mul-result
overflow_mul-result c = grind (arith, common_steps)

pub overflow_add-result : goal.overflow_add-result
overflow_add-result c = grind (arith, common_steps)
