use Rattle.std.proofs.Common.{map, take, All}
use Rattle.feature_model.specs.Data.{change_data}
use Rattle.tile_service.specs.Limits.{CoversFewTiles}
use Rattle.tile_service.proofs.editing.all_cover_few_tiles.Given as goal

abbrev pub invariant-loop-change : goal.invariant-loop-change
invariant-loop-change l = All (CoversFewTiles) (map change_data (take l.change-index l.changes))
