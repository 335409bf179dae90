use Rattle.std.proofs.Common.{take}
use Rattle.number_map.specs.Blocks.{joined}
use Rattle.feature_store.specs.Inside.{entries_data}
use Rattle.map_metadata.specs.Summaries.{SumsUp}
use Rattle.map_metadata.proofs.summary.summed_up.Given as goal

abbrev pub invariant-loop-block : goal.invariant-loop-block
invariant-loop-block l = SumsUp l.layers (entries_data (joined (take l.block-index l.blocks)))
