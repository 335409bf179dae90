use Rattle.pm_build.specs.Indexed.{IsNextOf, up_to}
use Rattle.pm_build.proofs.contents.Contents.find.Given as goal

abbrev pub invariant-loop-next : goal.invariant-loop-next
invariant-loop-next l = IsNextOf l.self.index.contents l.content l.next

abbrev pub decreases-loop-next : goal.decreases-loop-next
decreases-loop-next l = up_to l.next
