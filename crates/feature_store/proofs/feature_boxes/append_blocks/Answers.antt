use Rattle.std.proofs.Common.{[], refl, subst, ◌≡◌, ◌++◌, map, take, arith}
use Rattle.std.proofs.lemmas.List.{take_all}
use Rattle.number_map.specs.Blocks.{joined}
use Rattle.feature_store.specs.Indexed.{index_entry}
use Rattle.feature_store.specs.Inside.{entries_data}
use Rattle.feature_store.proofs.Boxes.{no_boxes, boxes_more}
use Rattle.feature_store.proofs.Entries.{blocks_more}
use Rattle.feature_store.proofs.feature_boxes.append_blocks.Goals as goal

pub loop-block-init : goal.loop-block-init
loop-block-init c = no_boxes c.args.boxes.now.items

pub loop-block-preserved : goal.loop-block-preserved
loop-block-preserved c =
    let before = entries_data (joined (take c.loop-block.block-index c.args.blocks.now)) in
    let more = blocks_more c.args.blocks.now c.loop-block.block-index c.block-item.result c.loop-block-test.true c.block-item.is [] before _ refl refl in
    boxes_more before (entries_data c.block-item.result) _ c.args.boxes.now.items c.loop-block.boxes.items c.append_entries.new.boxes.items more
    c.loop-block.invariant (rw c.entries.ensures at c.in_ok-append_entries.ensures)

pub returns : goal.returns
returns c =
    subst (λ bs. c.loop-block.boxes.items ≡ c.args.boxes.now.items ++ map index_entry (entries_data (joined bs)))
    (take_all c.loop-block.block-index c.args.blocks.now (omega (arith, c.loop-block-test.false))) c.loop-block.invariant
