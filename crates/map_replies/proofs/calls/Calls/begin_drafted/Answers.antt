use Rattle.std.proofs.Common.{refl}
use Rattle.map_replies.proofs.ReadyLemmas.{begins_late}
use Rattle.map_replies.proofs.calls.Calls.begin_drafted.Goals as goal

pub returns : goal.returns
returns g c =
    let call = c.publish_drafted.ensures in
    begins_late c.args.self.now _ c.publish_drafted.result c.requires.ready refl call.same call.begins
