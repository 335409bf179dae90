use Rattle.std.proofs.lemmas.Grind.{common_steps}
use Rattle.std.proofs.Common.{◌≡◌, ◌+◌, ℕ, List, [], length, map, take, get_or, Some, refl, sym, ap, subst, ◌∙◌, arith}
use Rattle.std.specs.List.{concat}
use Rattle.std.proofs.lemmas.List.{length_push, take_all}
use Rattle.pm_build.specs.declared.run.Run.{Run}
use Rattle.pm_build.specs.Joined.{run_view, run_views}
use Rattle.pm_build.specs.Offsets.{IsPlaced, EachPlaced}
use Rattle.pm_build.specs.Placed.{AreDifferent}
use Rattle.pm_build.proofs.Adding.{place_at}
use Rattle.pm_build.proofs.Different.{different_all, offset_at}
use Rattle.pm_build.proofs.Growing.{each_more, placed_all}
use Rattle.pm_build.proofs.placing.entries_of.Goals as goal

-- what an index behind the end would give
abbrev none : Run
none = record { first = 0; count = 0; place = 0 }

pub loop-run-preserved : goal.loop-run-preserved
loop-run-preserved c =
    let cs = c.args.contents.now.contents in
    let i = c.loop-run.run-index in
    let run = get_or c.args.runs.now i none in
    let different : AreDifferent cs =
    subst AreDifferent (sym c.requires.contents) (different_all [] (map (λ r. r.content) (run_views cs c.args.runs.now)) tt) in
    let there = offset_at 0 cs run.place different (place_at cs c.args.runs.now i none (omega arith) c.requires.places) in
    let offset : 0 + length (concat (take run.place cs)) ≡ c.stored_at-stored.result.offset = omega (arith, c.stored_at-stored.ensures.offset) in
    let placed : IsPlaced cs (run_view cs run) _ = record {
      id_is = refl;
      run_is = refl;
      length_is = c.stored_at-stored.ensures.len;
      offset_is = there ∙ ap (λ (n : ℕ). Some n) offset;
      offset_fits = omega arith;
    } in
    record {
      placed = each_more cs c.args.runs.now i none c.loop-run.entries.items c.push.new.self.items _ (omega arith) c.in_ok-push.ensures.items
          c.loop-run.invariant.placed placed;
      count = ap length c.in_ok-push.ensures.items ∙ length_push c.loop-run.entries.items _ ∙ ap (λ (n : ℕ). n + 1) c.loop-run.invariant.count;
    }

pub returns-clause-placed : goal.returns-clause-placed
returns-clause-placed c =
    let cs = c.args.contents.now.contents in
    let all : take c.loop-run.run-index c.args.runs.now ≡ c.args.runs.now = take_all c.loop-run.run-index c.args.runs.now (omega arith) in
    placed_all (run_views cs c.args.runs.now) c.loop-run.entries.items cs
    (subst (λ (runs : List Run). EachPlaced cs (run_views cs runs) c.loop-run.entries.items) all c.loop-run.invariant.placed) c.requires.contents

pub stored_at-stored-requires : goal.stored_at-stored-requires
stored_at-stored-requires c = grind (arith, common_steps)
