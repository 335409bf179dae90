use Rattle.std.proofs.Common.{◌≡◌, ◌+◌, ◌*◌, ◌<◌, ◌≤◌, ◌++◌, List, length}
use Rattle.std.specs.List.{AllByRecursion}
use Rattle.pm_directory.specs.declared.entry.DirectoryEntry.{DirectoryEntry}
use Rattle.pm_directory.specs.Directory.{IsAscending, IsEntry, HasEnd}
use Rattle.pm_build.specs.Leaves.{AreLeaves}
use Rattle.pm_build.proofs.directories.write_leaves.Given as goal

-- the leaf directories so far have the entries before the rest; while there is a rest, each has 512
abbrev pub invariant-loop-rest : goal.invariant-loop-rest
invariant-loop-rest l = record {
  ascending : IsAscending l.rest;
  each : AllByRecursion IsEntry l.rest;
  ends : AllByRecursion HasEnd l.rest;
  before : List DirectoryEntry;
  parts : before ++ l.rest ≡ l.entries;
  leaves : AreLeaves l.leaves.bytes.items l.leaves.names.items before;
  few : 512 * length l.leaves.names.items ≤ length before + 511;
  full : 0 < length l.rest → 512 * length l.leaves.names.items ≤ length before;
}

abbrev pub decreases-loop-rest : goal.decreases-loop-rest
decreases-loop-rest l = length l.rest
