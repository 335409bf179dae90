use Rattle.std.proofs.Common.{◌≡◌, ◌++◌, ◌∷◌, [], length, All, rules, subst}
use Rattle.box_index.specs.Covers.{CoversAll}
use Rattle.box_index.proofs.Skipped.{covered_push}
use Rattle.box_index.proofs.runs.cover_from.Goals as goal

pub loop-run-preserved : goal.loop-run-preserved
loop-run-preserved c =
    let wide = c.span_of_blocks.result in
    let pushed : c.push.new.self.items ≡ c.loop-run.runs.items ++ wide ∷ [] = search rules in
    let len : length c.loop-run.runs.items ≡ c.loop-run.run = search rules in
    record {
      len = search rules;
      capacity = search rules;
      covered = rw pushed
          (covered_push c.loop-run.runs.items c.args.blocks.now c.loop-run.run wide len
          (subst (All (CoversAll wide)) c.run_of.ensures c.span_of_blocks.ensures) c.loop-run.invariant.covered);
    }
