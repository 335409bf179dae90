use Rattle.std.proofs.Common.{take}
use Rattle.feature_store.specs.Inside.{entries_data}
use Rattle.map_metadata.specs.Summaries.{Adds}
use Rattle.map_metadata.proofs.summary.add_entries.Given as goal

abbrev pub invariant-loop-entry : goal.invariant-loop-entry
invariant-loop-entry l = Adds l.initial.layers l.layers (entries_data (take l.entry-index l.entries))
