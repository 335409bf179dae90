use Rattle.std.proofs.Common.{◌≡◌, ◌++◌, None, drop}
use Rattle.std.specs.List.{AllByRecursion}
use Rattle.pm_directory.specs.Directory.{HasEnd, offset_numbers, varints}
use Rattle.pm_directory.proofs.writing.put_offsets.Given as goal

abbrev pub invariant-loop-entry : goal.invariant-loop-entry
invariant-loop-entry l =
    (l.out.items ++ varints (offset_numbers l.end (drop l.entry-index l.entries)) ≡ l.fn.out.items ++ varints (offset_numbers None l.entries))
    × AllByRecursion HasEnd (drop l.entry-index l.entries)
