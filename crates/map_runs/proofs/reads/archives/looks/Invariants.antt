use Rattle.std.proofs.Common.{◌≡◌, length}
use Rattle.map_runs.proofs.reads.archives.looks.Given as goal

abbrev pub invariant-loop-id : goal.invariant-loop-id
invariant-loop-id l = l.lookup.count ≡ length l.source
