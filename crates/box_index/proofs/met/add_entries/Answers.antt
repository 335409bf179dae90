use Rattle.std.proofs.Common.{ℕ, Vec, sym, ◌∙◌, ap}
use Rattle.std.specs.declared.alloc.Global.{Global}
use Rattle.box_index.proofs.Added.{found_more, found_same}
use Rattle.box_index.proofs.met.add_entries.Goals as goal
use Rattle.box_index.proofs.met.add_entries.Goals.{then-is_met+in_ok-push, else-is_met}

pub loop-entry-preserved : goal.loop-entry-preserved
loop-entry-preserved c =
    let found = c.loop-entry.found.items in
    let at = c.loop-entry.entry-index in
    elim c.if-is_met.branch [
      | then-is_met+in_ok-push w ↦
          ap (λ (v : Vec ℕ Global). v.items) w.found-is ∙ w.in_ok-push.ensures.items
          ∙ found_more c.args.bounds.now c.args.from c.args.entries.now at _ c.args.found.now.items found c.loop-entry-test.true c.loop-entry.invariant
          (sym c.is_met.ensures ∙ w.if-is_met.true)
      | else-is_met w ↦
          ap (λ (v : Vec ℕ Global). v.items) w.found-is
          ∙ found_same c.args.bounds.now c.args.from c.args.entries.now at _ c.args.found.now.items found c.loop-entry-test.true c.loop-entry.invariant
          (sym c.is_met.ensures ∙ w.if-is_met.false)
    ]
