use Rattle.whole_write.specs.Writes.{SoFar}
use Rattle.whole_write.proofs.writing.write_whole.Given as goal

abbrev pub invariant-loop : goal.invariant-loop
invariant-loop g l = SoFar (g.W.Write.contents l.fn.into) (g.W.Write.contents l.into) l.bytes l.rest
