use Rattle.std.proofs.Common.{arith}
use Rattle.std.proofs.lemmas.Grind.{common_steps}
use Rattle.area_content.proofs.content.AreaContent.sector.Goals as goal

pub returns-then-index-first : goal.returns-then-index-first
returns-then-index-first c = grind (arith, common_steps)

pub returns-else-index-first : goal.returns-else-index-first
returns-else-index-first c = grind (arith, common_steps)
