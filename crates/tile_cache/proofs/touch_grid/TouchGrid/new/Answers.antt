use Rattle.std.proofs.Common.{replicate}
use Rattle.tile_cache.specs.declared.touch_grid.TheConstants.{LEVELS, CELLS}
use Rattle.tile_cache.proofs.Marks.{remembers_none, zeros}
use Rattle.tile_cache.proofs.touch_grid.TouchGrid.new.Goals as goal

pub returns : goal.returns
returns c = remembers_none LEVELS (replicate CELLS 0) (zeros CELLS)
