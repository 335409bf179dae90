use Rattle.feature_store.proofs.Entries.{block_own, block_texts_more}
use Rattle.feature_store.proofs.Snapshots.{none_put}
use Rattle.feature_store.proofs.snapshot_texts.append_block_texts.Goals as goal

pub loop-block-init : goal.loop-block-init
loop-block-init c = none_put c.args.out.now.items

pub append_texts-requires : goal.append_texts-requires
append_texts-requires c =
    rw c.entries.ensures
    (block_own c.args.blocks.now c.loop-block.block-index c.block-item.result c.loop-block-test.true c.block-item.is c.requires)

pub loop-block-preserved : goal.loop-block-preserved
loop-block-preserved c =
    block_texts_more c.args.blocks.now c.loop-block.block-index c.block-item.result c.loop-block-test.true c.block-item.is c.args.out.now.items
    c.loop-block.out.items c.append_texts.new.out.items c.loop-block.invariant (rw c.entries.ensures at c.in_ok-append_texts.ensures)
