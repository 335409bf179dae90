use Rattle.std.proofs.Common.{◌≡◌, ◌≤◌, [], None, length, vec_len, vec_capacity}
use Rattle.pm_directory.specs.Reading.{entries_at}
use Rattle.pm_directory.proofs.Steps.{entries_from}
use Rattle.pm_directory.proofs.reading.entries_of.Given as goal

abbrev pub invariant-loop-i : goal.invariant-loop-i
invariant-loop-i l = record {
  read : entries_from l.deltas l.runs l.lengths l.offsets l.before l.entries.items l.i ≡ entries_at None [] l.deltas l.runs l.lengths l.offsets;
  long : vec_len l.entries ≡ l.i;
  room : length l.deltas ≤ vec_capacity l.entries;
}
