use Rattle.std.proofs.Common.{◌≡◌, ℕ, ◌≤◌, ◌++◌, drop}
use Rattle.pm_directory.specs.Directory.{AscendFrom, id_deltas, varints}
use Rattle.pm_directory.proofs.writing.put_deltas.Given as goal

abbrev pub invariant-loop-entry : goal.invariant-loop-entry
invariant-loop-entry l =
    (l.out.items ++ varints (id_deltas l.before (drop l.entry-index l.entries)) ≡ l.fn.out.items ++ varints (id_deltas 0 l.entries))
    × ((from : ℕ) × (l.before ≤ from) × AscendFrom from (drop l.entry-index l.entries))
