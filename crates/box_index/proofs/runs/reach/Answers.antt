use Rattle.std.proofs.Common.{◌+◌, ◌*◌, ℕ, List, take, drop, sym, subst, ◌∙◌}
use Rattle.box_index.specs.declared.entry.IndexEntry.{IndexEntry}
use Rattle.box_index.specs.declared.runs.TheConstants.{RUN}
use Rattle.box_index.specs.Blocks.{joined}
use Rattle.box_index.proofs.Skipped.{run_covered, none_shown_in}
use Rattle.box_index.proofs.Reach.{Reaches, reaches_none, reaches_both, reaches_first, joined_more}
use Rattle.box_index.proofs.runs.reach.Goals as goal
use Rattle.box_index.proofs.runs.reach.Goals.{then-shows, else-shows}

pub loop-run-init : goal.loop-run-init
loop-run-init c = reaches_none c.args.bounds.now c.args.zoom

pub loop-run-preserved : goal.loop-run-preserved
loop-run-preserved c =
    let bs = c.args.blocks.now in
    let bounds = c.args.bounds.now in
    let zoom = c.args.zoom in
    let at = c.loop-run.run in
    let front = joined (take (at * RUN) bs) in
    let run = take RUN (drop (at * RUN) bs) in
    elim c.if-shows.branch [
      | then-shows w ↦
          subst (λ (n : ℕ). Reaches bounds zoom (joined (take ((at + 1) * RUN) bs)) n) (sym w.count-is)
          (subst (λ (es : List IndexEntry). Reaches bounds zoom es w.saturating_add-count.result) (sym (joined_more bs at))
          (reaches_both bounds zoom front (joined run) c.loop-run.count w.reach_of_blocks-here.result w.saturating_add-count.result c.loop-run.invariant
          (subst (λ (es : List (List IndexEntry)). Reaches bounds zoom (joined es) w.reach_of_blocks-here.result) w.run_of.ensures
          (record { least = w.reach_of_blocks-here.ensures.least; most = w.reach_of_blocks-here.ensures.most })) w.saturating_add-count.ensures))
      | else-shows w ↦
          subst (λ (n : ℕ). Reaches bounds zoom (joined (take ((at + 1) * RUN) bs)) n) (sym w.count-is)
          (subst (λ (es : List IndexEntry). Reaches bounds zoom es c.loop-run.count) (sym (joined_more bs at))
          (reaches_first bounds zoom front (joined run) c.loop-run.count c.loop-run.invariant
          (none_shown_in bounds zoom _ run (run_covered c.args.runs.now bs at _ c.requires) (sym c.shows.ensures ∙ w.if-shows.false))))
    ]
