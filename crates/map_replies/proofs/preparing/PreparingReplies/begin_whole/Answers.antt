use Rattle.std.proofs.Common.{refl}
use Rattle.map_replies.proofs.preparing.PreparingReplies.begin_whole.Goals as goal

pub returns : goal.returns
returns g c = (c.begin_drafted.result, (refl, refl, c.begin_drafted.ensures))
