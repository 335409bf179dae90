use Rattle.std.proofs.Common.{None, inl, inr, refl, ap}
use Rattle.map_replies.specs.Preparing.{PreparingReplied}
use Rattle.map_replies.proofs.SendingLemmas.{whole_is}
use Rattle.map_replies.proofs.ReadyLemmas.{to_begin}
use Rattle.map_replies.proofs.preparing.PreparingReplies.answer_publishing.Goals as goal

pub returns-in-Some-clause-replied : goal.returns-in-Some-clause-replied
returns-in-Some-clause-replied g c =
    let d = g.D.Sectors in
    let old = c.args.self.now in
    let late = c.begin_ready.ensures.begins in
    whole_is (λ view. PreparingReplied d.sectors d.honest d.history d.faults old c.args.request.now view
    (record old { replies = record old.replies { calls = c.begin_ready.new.self }; whole = None })) _ c.begin_ready.result c.begin_ready.ensures.writable
    (inr (inl (
      late.0,
      to_begin old.replies c.args.request.now _ _ c.requires.asked refl c.in-Some.ensures.asked c.in-Some.ensures.may,
      late.1,
      refl,
      refl,
      late.2,
    )))
