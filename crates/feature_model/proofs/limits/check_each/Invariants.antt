use Rattle.std.proofs.Common.{map, take, All}
use Rattle.feature_model.specs.Data.{change_data}
use Rattle.feature_model.specs.Limits.{ChangeFits}
use Rattle.feature_model.proofs.limits.check_each.Given as goal

abbrev pub invariant-loop-change : goal.invariant-loop-change
invariant-loop-change l = All ChangeFits (map change_data (take l.change-index l.changes))
