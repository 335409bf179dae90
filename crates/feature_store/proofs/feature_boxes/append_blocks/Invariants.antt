use Rattle.std.proofs.Common.{◌≡◌, ◌++◌, take, map}
use Rattle.number_map.specs.Blocks.{joined}
use Rattle.feature_store.specs.Indexed.{index_entry}
use Rattle.feature_store.specs.Inside.{entries_data}
use Rattle.feature_store.proofs.feature_boxes.append_blocks.Given as goal

abbrev pub invariant-loop-block : goal.invariant-loop-block
invariant-loop-block l = l.boxes.items ≡ l.initial.boxes.items ++ map index_entry (entries_data (joined (take l.block-index l.blocks)))
