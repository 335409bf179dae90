use Rattle.std.proofs.Common.{◌≡◌, ◌++◌, take}
use Rattle.feature_store.specs.Inside.{entries_data}
use Rattle.feature_store.specs.Store.{snapshot}
use Rattle.feature_store.proofs.snapshot_texts.append_texts.Given as goal

abbrev pub invariant-loop-entry : goal.invariant-loop-entry
invariant-loop-entry l = l.out.items ≡ l.initial.out.items ++ snapshot (entries_data (take l.entry-index l.entries))
