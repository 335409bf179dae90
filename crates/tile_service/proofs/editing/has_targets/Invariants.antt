use Rattle.std.proofs.Common.{map, take, All}
use Rattle.feature_model.specs.Data.{change_data}
use Rattle.tile_service.specs.Machine.{HasTarget}
use Rattle.tile_service.proofs.editing.has_targets.Given as goal

abbrev pub invariant-loop-change : goal.invariant-loop-change
invariant-loop-change l = All (HasTarget l.store.features) (map change_data (take l.change-index l.changes))
