use Rattle.std.proofs.Common.{◌≡◌, ◌++◌, drop}
use Rattle.pm_directory.specs.Directory.{runs_of, varints}
use Rattle.pm_directory.proofs.writing.put_runs.Given as goal

abbrev pub invariant-loop-entry : goal.invariant-loop-entry
invariant-loop-entry l = l.out.items ++ varints (runs_of (drop l.entry-index l.entries)) ≡ l.fn.out.items ++ varints (runs_of l.entries)
