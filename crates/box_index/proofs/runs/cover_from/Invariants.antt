use Rattle.std.proofs.Common.{◌≡◌, ◌≤◌, ◌*◌}
use Rattle.std.specs.Prelude.{vec_len, vec_capacity}
use Rattle.box_index.specs.declared.runs.TheConstants.{RUN}
use Rattle.box_index.specs.Runs.{AreCoveredTo}
use Rattle.box_index.proofs.runs.cover_from.Given as goal

-- the runs so far
abbrev pub invariant-loop-run : goal.invariant-loop-run
invariant-loop-run l = record {
  len : vec_len l.runs ≡ l.run;
  capacity : vec_capacity l.fn.runs ≤ vec_capacity l.runs;
  covered : AreCoveredTo (l.run * RUN) l.runs.items l.blocks;
}
