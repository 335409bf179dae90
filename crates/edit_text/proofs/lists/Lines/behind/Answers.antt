use Rattle.edit_text.specs.Trusted.{line_in}
use Rattle.edit_text.proofs.EachSteps.{behind_next, behind_all}
use Rattle.edit_text.proofs.lists.Lines.behind.Goals as goal

pub loop-preserved : goal.loop-preserved
loop-preserved c = rw c.front.ensures.rest (behind_next line_in c.args.count c.loop.counter c.loop.rest.now _ c.loop-test.true c.loop.invariant)

pub returns : goal.returns
returns c = behind_all line_in c.args.count c.loop.counter c.loop.rest.now _ c.loop-test.false c.loop.invariant
