use Rattle.std.proofs.Common.{◌≡◌, ◌++◌, take}
use Rattle.number_map.specs.Blocks.{joined}
use Rattle.feature_store.specs.Inside.{entries_data}
use Rattle.feature_store.specs.Store.{snapshot}
use Rattle.feature_store.proofs.snapshot_texts.append_block_texts.Given as goal

abbrev pub invariant-loop-block : goal.invariant-loop-block
invariant-loop-block l = l.out.items ≡ l.initial.out.items ++ snapshot (entries_data (joined (take l.block-index l.blocks)))
