use Rattle.std.proofs.Common.{◌≡◌, ◌≤◌, map, take}
use Rattle.feature_store.specs.Prepared.{prepared_data}
use Rattle.feature_store.specs.Store.{puts_in}
use Rattle.feature_store.proofs.prepared.count_puts.Given as goal

abbrev pub invariant-loop-change : goal.invariant-loop-change
invariant-loop-change l = (l.count ≡ puts_in (map prepared_data (take l.change-index l.changes))) × (l.count ≤ l.change-index)
