use Rattle.std.proofs.Common.{◌≡◌, ◌++◌, drop}
use Rattle.pm_directory.specs.Directory.{lengths_of, varints}
use Rattle.pm_directory.proofs.writing.put_lengths.Given as goal

abbrev pub invariant-loop-entry : goal.invariant-loop-entry
invariant-loop-entry l = l.out.items ++ varints (lengths_of (drop l.entry-index l.entries)) ≡ l.fn.out.items ++ varints (lengths_of l.entries)
