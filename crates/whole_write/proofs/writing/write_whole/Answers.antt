use Rattle.whole_write.proofs.Written.{written_on, written_all}
use Rattle.whole_write.proofs.writing.write_whole.Goals as goal

pub returns-then-rest-eq0 : goal.returns-then-rest-eq0
returns-then-rest-eq0 g c = written_all (g.W.Write.contents c.args.into.now) (g.W.Write.contents c.loop.into) c.args.bytes.now c.loop.rest.now
    c.loop.invariant c.if-rest-eq0.true

pub loop-preserved : goal.loop-preserved
loop-preserved g c = written_on (g.W.Write.contents c.args.into.now) (g.W.Write.contents c.loop.into) (g.W.Write.contents c.write_some.new.into)
    c.args.bytes.now c.loop.rest.now c.in_ok-left.left.now c.loop.invariant c.in_ok-left.ensures
