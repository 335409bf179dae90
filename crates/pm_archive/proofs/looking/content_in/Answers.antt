use Rattle.std.proofs.Common.{arith}
use Rattle.std.proofs.Common.{rules}
use Rattle.std.proofs.lemmas.Grind.{common_steps}
use Rattle.pm_archive.specs.Looked.{content_at}
use Rattle.pm_archive.specs.Reading.{content_of_tile}
use Rattle.pm_archive.proofs.looking.content_in.Goals as goal

pub returns-in-None-clause-first : goal.returns-in-None-clause-first
unfolding content_at content_of_tile
returns-in-None-clause-first g c = search rules

pub returns-in_err-content-clause-first : goal.returns-in_err-content-clause-first
unfolding content_at content_of_tile
returns-in_err-content-clause-first g c = grind (arith, common_steps)

pub returns-clause-first : goal.returns-clause-first
unfolding content_at content_of_tile
returns-clause-first g c = search rules
