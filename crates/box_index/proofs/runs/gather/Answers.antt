use Rattle.std.proofs.Common.{ℕ, ◌*◌, [], Vec, take, drop, sym, ap, ◌∙◌, append-nil, arith}
use Rattle.std.proofs.lemmas.List.{take_all}
use Rattle.std.specs.declared.alloc.Global.{Global}
use Rattle.box_index.specs.declared.runs.TheConstants.{RUN}
use Rattle.box_index.specs.Shown.{ids_shown}
use Rattle.box_index.specs.Blocks.{joined}
use Rattle.box_index.proofs.Skipped.{run_more, run_covered, none_shown_in}
use Rattle.box_index.proofs.runs.gather.Goals as goal
use Rattle.box_index.proofs.runs.gather.Goals.{then-shows+in_ok-add_shown, else-shows}

pub loop-run-preserved : goal.loop-run-preserved
loop-run-preserved c =
    let bs = c.args.blocks.now in
    let bounds = c.args.bounds.now in
    let zoom = c.args.zoom in
    let at = c.loop-run.run in
    let found = c.loop-run.found.items in
    elim c.if-shows.branch [
      | then-shows+in_ok-add_shown w ↦
          ap (λ (v : Vec ℕ Global). v.items) w.found-is ∙ w.in_ok-add_shown.ensures
          ∙ run_more bounds zoom bs at found (ids_shown bounds zoom (joined w.run_of.result.now)) c.loop-run.invariant
          (ap (λ run. ids_shown bounds zoom (joined run)) w.run_of.ensures)
      | else-shows w ↦
          ap (λ (v : Vec ℕ Global). v.items) w.found-is ∙ sym (append-nil found)
          ∙ run_more bounds zoom bs at found [] c.loop-run.invariant
          (sym (none_shown_in bounds zoom _ (take RUN (drop (at * RUN) bs)) (run_covered c.args.runs.now bs at _ c.requires)
          (sym c.shows.ensures ∙ w.if-shows.false)))
    ]

pub returns : goal.returns
returns c =
    c.loop-run.invariant
    ∙ ap (λ bs. ids_shown c.args.bounds.now c.args.zoom (joined bs))
    (take_all (c.loop-run.run * RUN) c.args.blocks.now (omega (arith, c.requires.count, c.loop-run-test.false)))
