use Rattle.std.proofs.Common.{◌≡◌, ◌++◌, take}
use Rattle.box_index.specs.Met.{ids_met}
use Rattle.box_index.proofs.met.add_entries.Given as goal

-- the ids so far
abbrev pub invariant-loop-entry : goal.invariant-loop-entry
invariant-loop-entry l = l.found.items ≡ l.fn.found.items ++ ids_met l.bounds l.from (take l.entry-index l.entries)
