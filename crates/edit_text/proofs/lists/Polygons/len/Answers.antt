use Rattle.std.proofs.Common.{arith}
use Rattle.edit_text.specs.Trusted.{lines_in}
use Rattle.edit_text.proofs.EachSteps.{each_len}
use Rattle.edit_text.proofs.lists.Polygons.len.Goals as goal

pub returns : goal.returns
returns c = omega (arith, c.from.ensures, each_len lines_in c.args.self.now.count c.args.self.now.rest.now)
