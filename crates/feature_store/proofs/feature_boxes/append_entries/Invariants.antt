use Rattle.std.proofs.Common.{◌≡◌, ◌++◌, take, map}
use Rattle.feature_store.specs.Indexed.{index_entry}
use Rattle.feature_store.specs.Inside.{entries_data}
use Rattle.feature_store.proofs.feature_boxes.append_entries.Given as goal

abbrev pub invariant-loop-entry : goal.invariant-loop-entry
invariant-loop-entry l = l.boxes.items ≡ l.initial.boxes.items ++ map index_entry (entries_data (take l.entry-index l.entries))
