use Rattle.std.proofs.Common.{refl}
use Rattle.map_replies.proofs.ReadyLemmas.{begins_late}
use Rattle.map_replies.proofs.calls.Calls.begin_ready.Goals as goal

pub returns-clause-begins : goal.returns-clause-begins
returns-clause-begins g c = (
  c.publish_drafted-outcome.result,
  c.left.ensures.reply,
  begins_late c.args.self.now _ c.publish_drafted-outcome.result c.requires.ready refl c.publish_drafted-outcome.ensures.same
      c.publish_drafted-outcome.ensures.begins,
)
