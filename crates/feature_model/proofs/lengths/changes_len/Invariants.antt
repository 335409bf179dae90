use Rattle.std.proofs.Common.{◌≡◌, ◌*◌, ◌≤◌, length, map, take}
use Rattle.feature_model.specs.Data.{change_data}
use Rattle.feature_model.specs.Lengths.{change_most}
use Rattle.feature_model.specs.Spelled.{spelled_changes}
use Rattle.feature_model.proofs.lengths.changes_len.Given as goal

abbrev pub invariant-loop-change : goal.invariant-loop-change
invariant-loop-change l = (l.len ≡ length (spelled_changes (map change_data (take l.change-index l.changes)))) × (l.len ≤ change_most * l.change-index)
