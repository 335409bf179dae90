use Rattle.std.proofs.Common.{◌≡◌, [], ◌∷◌, None, refl, take, inl, inr}
use Rattle.http_listen.proofs.Preparations.{prepared_first, runs_prepared}
use Rattle.http_listen.proofs.StepLemmas.{steps_stand, steps_before}
use Rattle.http_listen.proofs.connections.prepare_front.Goals as goal

pub returns-then-puts_off-clause-comes : goal.returns-then-puts_off-clause-comes
returns-then-puts_off-clause-comes g c =
    let made = c.prepare_found-prepared.ensures.steps in
    (c.args.peer.now.state.number, take c.args.asked.end c.args.peer.now.connection.input, made.0, c.prepare_found-prepared.new.handler, made.1, inl refl)

pub returns-clause-comes : goal.returns-clause-comes
returns-clause-comes g c =
    let made = c.prepare_found-prepared.ensures.steps in (
      c.args.peer.now.state.number,
      take c.args.asked.end c.args.peer.now.connection.input,
      made.0,
      c.prepare_found-prepared.new.handler,
      made.1,
      inr c.answer_front.ensures.comes,
    )

pub returns-then-puts_off-clause-acts : goal.returns-then-puts_off-clause-acts
returns-then-puts_off-clause-acts g c =
    let told = g.S.Talks.told in
    let new = c.put_off.new.peer in
    let whole = c.put_off.result.ending ≡ None in
    let bytes = take c.args.asked.end c.args.peer.now.connection.input in
    let made = c.prepare_found-prepared.ensures.steps in (
      prepared_first bytes made.0 [],
      runs_prepared g.H.Handler.replies g.H.Downloads.reads g.H.Downloads.ticket_of g.H.Prepares.prepares c.args.peer.now.state.number
          bytes made.0 [] _ _ _ made.1 refl,
      steps_before told bytes made.0 c.args.peer.now new [] whole c.requires.whole c.requires.settled (steps_stand told c.args.peer.now new whole c.put_off.ensures.stands),
    )

pub returns-clause-acts : goal.returns-clause-acts
returns-clause-acts g c =
    let did = c.answer_front.ensures.acts in
    let bytes = take c.args.asked.end c.args.peer.now.connection.input in
    let made = c.prepare_found-prepared.ensures.steps in (
      prepared_first bytes made.0 (did.0 ∷ []),
      runs_prepared g.H.Handler.replies g.H.Downloads.reads g.H.Downloads.ticket_of g.H.Prepares.prepares c.args.peer.now.state.number
          bytes made.0 (did.0 ∷ []) _ _ _ made.1 (c.answer_front.new.handler, did.1, refl),
      steps_before g.S.Talks.told bytes made.0 c.args.peer.now c.answer_front.new.peer (did.0 ∷ []) (c.answer_front.result.ending ≡ None) c.requires.whole
          c.requires.settled did.2,
    )
