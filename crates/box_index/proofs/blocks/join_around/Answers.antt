use Rattle.box_index.proofs.Skipped.{same_before}
use Rattle.box_index.proofs.blocks.join_around.Goals as goal

pub returns-then-join_next-clause-before : goal.returns-then-join_next-clause-before
returns-then-join_next-clause-before c =
    same_before c.args.at c.saturating_sub.result c.args.blocks.now.items c.join_next-with_next.new.blocks.items c.join_next.new.blocks.items
    c.saturating_sub.ensures c.join_next-with_next.ensures.before c.join_next.ensures.before

pub returns-else-join_next-clause-before : goal.returns-else-join_next-clause-before
returns-else-join_next-clause-before c =
    same_before c.args.at c.saturating_sub.result c.args.blocks.now.items c.join_next-with_next.new.blocks.items c.join_next.new.blocks.items
    c.saturating_sub.ensures c.join_next-with_next.ensures.before c.join_next.ensures.before
