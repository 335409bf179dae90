use Rattle.std.proofs.Common.{None, inr, refl, ap}
use Rattle.map_replies.specs.Preparing.{PreparingReplied}
use Rattle.map_replies.proofs.SendingLemmas.{whole_is}
use Rattle.map_replies.proofs.ReadyLemmas.{to_publish}
use Rattle.map_replies.proofs.preparing.PreparingReplies.answer_begun.Goals as goal

pub returns-in-Some-clause-replied : goal.returns-in-Some-clause-replied
returns-in-Some-clause-replied g c =
    let d = g.D.Sectors in
    let old = c.args.self.now in
    let late = c.end_whole.ensures.ends in
    whole_is (λ view. PreparingReplied d.sectors d.honest d.history d.faults old c.args.request.now view
    (record old { replies = record old.replies { calls = c.end_whole.new.self }; whole = None })) _ c.end_whole.result c.end_whole.ensures.writable
    (inr (inr (
      c.args.beginning,
      late.0,
      to_publish old.replies c.args.request.now _ _ c.requires.asked refl c.in-Some.ensures.asked c.in-Some.ensures.may,
      late.1,
      refl,
      c.requires.has,
      refl,
      late.2,
    )))
