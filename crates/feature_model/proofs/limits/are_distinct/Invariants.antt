use Rattle.std.proofs.Common.{map}
use Rattle.feature_model.specs.Data.{change_data}
use Rattle.feature_model.proofs.Changes.{AreDistinctTo}
use Rattle.feature_model.proofs.limits.are_distinct.Given as goal

abbrev pub invariant-loop-i : goal.invariant-loop-i
invariant-loop-i l = AreDistinctTo l.i (map change_data l.changes)
