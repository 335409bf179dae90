use Rattle.map_metadata.proofs.Added.{blocks_more}
use Rattle.map_metadata.proofs.summary.summed_up.Goals as goal

pub loop-block-preserved : goal.loop-block-preserved
loop-block-preserved c =
    blocks_more c.loop-block.layers c.add_entries.new.layers c.args.blocks.now c.loop-block.block-index c.block-item.result c.entries.result.now
    c.loop-block-test.true c.block-item.is c.entries.ensures c.loop-block.invariant c.in_ok-add_entries.ensures
