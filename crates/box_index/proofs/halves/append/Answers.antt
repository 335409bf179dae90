use Rattle.std.proofs.Common.{rules, ◌∙◌}
use Rattle.box_index.proofs.Keyed.{appended_more}
use Rattle.box_index.proofs.halves.append.Goals as goal

pub loop-entry-preserved : goal.loop-entry-preserved
loop-entry-preserved c =
    record {
      items =
          rw c.unwrap.ensures at c.push.ensures.items
          ∙ appended_more c.args.entries.now.items c.args.keyed.now c.loop-entry.entry-index _ c.loop-entry.entries.items c.loop-entry-test.true
          c.loop-entry.invariant.items;
      len = search rules;
      capacity = search rules;
    }
