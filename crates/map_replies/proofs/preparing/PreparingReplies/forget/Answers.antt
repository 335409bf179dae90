use Rattle.std.proofs.Common.{None, ap}
use Rattle.map_replies.proofs.preparing.PreparingReplies.forget.Goals as goal

pub returns : goal.returns
returns g c =
    let old = c.args.self.now in
    ap (λ s. record old { replies = record old.replies { calls = record old.replies.calls { service = s } }; whole = None }) c.publish_drop.ensures.same
