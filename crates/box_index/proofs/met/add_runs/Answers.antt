use Rattle.std.proofs.Common.{ℕ, ◌+◌, ◌*◌, ◌++◌, List, length, take, drop, All, Option, None, Some, subst, sym, ap, ◌∙◌, arith}
use Rattle.std.proofs.lemmas.List.{take_all}
use Rattle.box_index.specs.Blocks.{joined}
use Rattle.box_index.specs.Covers.{CoversAll}
use Rattle.box_index.specs.declared.entry.IndexEntry.{IndexEntry}
use Rattle.box_index.specs.declared.runs.TheConstants.{RUN}
use Rattle.box_index.specs.Met.{AreAdded}
use Rattle.box_index.proofs.Added.{added_both, too_many}
use Rattle.box_index.proofs.Reach.{joined_more}
use Rattle.box_index.proofs.Skipped.{run_covered}
use Rattle.box_index.proofs.met.add_runs.Goals as goal

pub add_run-requires : goal.add_run-requires
add_run-requires c = subst (All (CoversAll _)) (sym c.run_of.ensures) (run_covered c.args.runs.now c.args.blocks.now c.loop-run.run _ c.requires)

pub loop-run-preserved : goal.loop-run-preserved
loop-run-preserved c =
    let bs = c.args.blocks.now in
    let at = c.loop-run.run in
    let bounds = c.args.bounds.now in
    let from = c.args.from in
    let run = take RUN (drop (at * RUN) bs) in
    let new = c.add_run.new.found.items in
    let here : AreAdded bounds from (joined run) c.loop-run.rest c.loop-run.found.items new (Some c.in-Some.fewer) =
    subst (λ (bs : List (List IndexEntry)). AreAdded bounds from (joined bs) c.loop-run.rest c.loop-run.found.items new (Some c.in-Some.fewer)) c.run_of.ensures
    (subst (λ (o : Option ℕ). AreAdded bounds from (joined c.run_of.result.now) c.loop-run.rest c.loop-run.found.items new o) c.in-Some.is
    c.in_ok-fewer.ensures) in
    subst (λ (es : List IndexEntry). AreAdded bounds from es c.args.left c.args.found.now.items new (Some c.in-Some.fewer)) (sym (joined_more bs at))
    (added_both bounds from (joined (take (at * RUN) bs)) (joined run) c.args.left c.loop-run.rest c.args.found.now.items c.loop-run.found.items new
    (Some c.in-Some.fewer) c.loop-run.invariant here)

pub returns-in-None : goal.returns-in-None
returns-in-None c =
    let bs = c.args.blocks.now in
    let at = c.loop-run.run in
    let bounds = c.args.bounds.now in
    let from = c.args.from in
    let run = take RUN (drop (at * RUN) bs) in
    let new = c.add_run.new.found.items in
    let here : AreAdded bounds from (joined run) c.loop-run.rest c.loop-run.found.items new None =
    subst (λ (bs : List (List IndexEntry)). AreAdded bounds from (joined bs) c.loop-run.rest c.loop-run.found.items new None) c.run_of.ensures
    (subst (λ (o : Option ℕ). AreAdded bounds from (joined c.run_of.result.now) c.loop-run.rest c.loop-run.found.items new o) c.in-None.is
    c.in_ok-fewer.ensures) in
    let both = added_both bounds from (joined (take (at * RUN) bs)) (joined run) c.args.left c.loop-run.rest c.args.found.now.items c.loop-run.found.items
    new None c.loop-run.invariant here in
    too_many ((at + 1) * RUN) c.args.left bs (omega (arith, both, ap length (joined_more bs at)))

pub returns : goal.returns
returns c =
    subst (λ (bs : List (List IndexEntry)). AreAdded c.args.bounds.now c.args.from (joined bs) c.args.left c.args.found.now.items c.loop-run.found.items
    (Some c.loop-run.rest)) (take_all (c.loop-run.run * RUN) c.args.blocks.now (omega (arith, c.requires.count, c.loop-run-test.false)))
    c.loop-run.invariant
