use Rattle.std.proofs.Common.{arith}
use Rattle.std.proofs.lemmas.Grind.{common_steps}
use Rattle.std.proofs.lemmas.List.{take-map, drop-map}
use Rattle.mvt_write.proofs.entries.Entries.put_range.Goals as goal

pub loop-span-preserved : goal.loop-span-preserved
loop-span-preserved c = grind (arith, common_steps)

pub returns : goal.returns
returns c = grind (arith, common_steps, take-map, drop-map)
