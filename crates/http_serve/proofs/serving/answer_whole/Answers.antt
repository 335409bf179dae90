use Rattle.std.proofs.Common.{ℕ, List, refl, sym, ap, ◌∙◌, subst, arith, length, length-append, length-drop, drop}
use Rattle.http_requests.specs.declared.frames.Next.TheVariants.{Whole, Refused, More}
use Rattle.http_serve.specs.declared.connection.ServeFault.{ServeFault}
use Rattle.http_requests.specs.Frame.{IsNext}
use Rattle.http_serve.specs.Connections.{ConnectionView}
use Rattle.http_serve.specs.Steps.{IsBroken}
use Rattle.http_serve.specs.Told.{HasContent, IsNotMemory}
use Rattle.http_requests.specs.Requests.{asked, refused}
use Rattle.http_serve.specs.Reply.{refusal_bytes}
use Rattle.http_serve.specs.Served.{Anything, Carries}
use Rattle.http_requests.proofs.HeadLemmas.{missing_now}
use Rattle.http_serve.proofs.CarryLemmas.{Carries_start, Ends_push, Breaks_refused, Frame_push, Frame_ends}
use Rattle.http_serve.proofs.PartLemmas.{cut_content, cut_no_memory}
use Rattle.http_serve.proofs.ServeLemmas.{asked_other, refused_other, cut_breaks}
use Rattle.http_serve.proofs.serving.answer_whole.Goals as goal

pub returns-in-More-clause-ok : goal.returns-in-More-clause-ok
returns-in-More-clause-ok g c =
    let input = c.next.new.self.input in
    let missing = c.in-More.missing in
    let found = subst (λ (v : ConnectionView). IsNext v.input c.next.new.fields (More missing)) (sym c.next.ensures.same) c.in-More.ensures.next in
    let carries = subst (λ (v : ConnectionView). Carries g.H.Handler.replies c.args.handler.now c.args.connection.now.input
    (g.W.Write.contents c.args.writer.now)
    c.args.requests c.requests.handler v.input (g.W.Write.contents c.requests.writer) c.requests.requests) (sym c.next.ensures.same)
    c.requests.invariant.carries in
    let told = missing_now input missing.rejection missing.until found in
    (carries, told.0, told.1, told.2, told.3)

pub returns-in-Ok-clause-ok : goal.returns-in-Ok-clause-ok
returns-in-Ok-clause-ok g c =
    let input = c.next.new.self.input in
    let rejection = c.in-Refused.rejection in
    let refusal = rejection.refusal in
    let found = subst (λ (v : ConnectionView). IsNext v.input c.next.new.fields (Refused rejection)) (sym c.next.ensures.same) c.in-Refused.ensures.next in
    let carries = subst (λ (v : ConnectionView). Carries g.H.Handler.replies c.args.handler.now c.args.connection.now.input
    (g.W.Write.contents c.args.writer.now)
    c.args.requests c.requests.handler v.input (g.W.Write.contents c.requests.writer) c.requests.requests) (sym c.next.ensures.same)
    c.requests.invariant.carries in (
      refused found.head refusal,
      Ends_push g.H.Handler.replies _ _ _ c.args.requests _ input _ c.requests.requests Anything
          (refused found.head refusal) (refusal_bytes found.head refusal) _ _
          c.saturating_add.result carries
          (λ more _. (omega (arith, found.some, length-append input more), found.refused more)) (refl, refl)
          (c.in-Ok.ensures.sent found.head found.bare) c.saturating_add.ensures,
      refl,
      refused_other,
    )

pub returns-in-Err-clause-err : goal.returns-in-Err-clause-err
returns-in-Err-clause-err g c =
    let input = c.next.new.self.input in
    let rejection = c.in-Refused.rejection in
    let refusal = rejection.refusal in
    let found = subst (λ (v : ConnectionView). IsNext v.input c.next.new.fields (Refused rejection)) (sym c.next.ensures.same) c.in-Refused.ensures.next in
    let carries = subst (λ (v : ConnectionView). Carries g.H.Handler.replies c.args.handler.now c.args.connection.now.input
    (g.W.Write.contents c.args.writer.now)
    c.args.requests c.requests.handler v.input (g.W.Write.contents c.requests.writer) c.requests.requests) (sym c.next.ensures.same)
    c.requests.invariant.carries in
    let sent = c.in-Err.ensures.sent found.head found.bare in
    Breaks_refused g.H.Handler.replies _ _ _ c.args.requests _ input _ c.requests.requests Anything found.head refusal sent.0 _
    carries found.some
    (λ more _. found.refused more) sent.1 sent.2

pub returns-in-Err-answer_one-clause-err : goal.returns-in-Err-answer_one-clause-err
returns-in-Err-answer_one-clause-err g c =
    let frame = c.in-Whole.frame in
    let input = c.next.new.self.input in
    let found = subst (λ (v : ConnectionView). IsNext v.input c.next.new.fields (Whole frame)) (sym c.next.ensures.same) c.in-Whole.ensures.next in
    let carries = subst (λ (v : ConnectionView). Carries g.H.Handler.replies c.args.handler.now c.args.connection.now.input
    (g.W.Write.contents c.args.writer.now)
    c.args.requests c.requests.handler v.input (g.W.Write.contents c.requests.writer) c.requests.requests) (sym c.next.ensures.same)
    c.requests.invariant.carries in
    let told = c.in-Err-answer_one.ensures.reply in
    subst (λ (fault : ServeFault). IsBroken g.H.Handler.replies g.H.Handler.fails c.args.handler.now c.args.connection.now.input
    (g.W.Write.contents c.args.writer.now) c.args.requests fault c.answer_one.new.handler (g.W.Write.contents c.answer_one.new.writer)) (sym c.after.ensures)
    (cut_breaks _ _ _ c.args.requests _ input _ c.requests.requests c.next.new.fields frame found.0 input _ found.1 found.1.is
    g.H.Handler.replies g.H.Handler.fails told.0 told.2.0 _ _ c.in-Err-answer_one.fault carries told.1 told.2.1 told.2.2)

pub returns-in-Err-answer_one-clause-content : goal.returns-in-Err-answer_one-clause-content
returns-in-Err-answer_one-clause-content g c =
    subst (λ (fault : ServeFault). HasContent (g.H.Handler.size c.answer_one.new.handler) fault) (sym c.after.ensures)
    (cut_content (g.H.Handler.size c.answer_one.new.handler) c.requests.requests c.in-Err-answer_one.fault
    c.in-Err-answer_one.ensures.cut)

pub returns-in-Err-answer_one-clause-no_memory : goal.returns-in-Err-answer_one-clause-no_memory
returns-in-Err-answer_one-clause-no_memory g c =
    subst IsNotMemory (sym c.after.ensures) (cut_no_memory c.requests.requests c.in-Err-answer_one.fault)

pub returns-then-frame-clause-ok : goal.returns-then-frame-clause-ok
returns-then-frame-clause-ok g c =
    let frame = c.in-Whole.frame in
    let input = c.next.new.self.input in
    let found = subst (λ (v : ConnectionView). IsNext v.input c.next.new.fields (Whole frame)) (sym c.next.ensures.same) c.in-Whole.ensures.next in
    let carries = subst (λ (v : ConnectionView). Carries g.H.Handler.replies c.args.handler.now c.args.connection.now.input
    (g.W.Write.contents c.args.writer.now)
    c.args.requests c.requests.handler v.input (g.W.Write.contents c.requests.writer) c.requests.requests) (sym c.next.ensures.same)
    c.requests.invariant.carries in
    let told = c.in-Ok-answer_one.ensures.reply in (
      asked found.0,
      Frame_ends g.H.Handler.replies _ _ _ c.args.requests _ input _ c.requests.requests c.next.new.fields frame found.0 input _ told.0 _ _
          carries found.1 found.1.is told.1 c.saturating_add-requests.result c.if-frame.true told.2
          c.saturating_add-requests.ensures,
      refl,
      asked_other,
    )

pub requests-preserved : goal.requests-preserved
requests-preserved g c =
    let frame = c.in-Whole.frame in
    let input = c.next.new.self.input in
    let found = subst (λ (v : ConnectionView). IsNext v.input c.next.new.fields (Whole frame)) (sym c.next.ensures.same) c.in-Whole.ensures.next in
    let carries = subst (λ (v : ConnectionView). Carries g.H.Handler.replies c.args.handler.now c.args.connection.now.input
    (g.W.Write.contents c.args.writer.now)
    c.args.requests c.requests.handler v.input (g.W.Write.contents c.requests.writer) c.requests.requests) (sym c.next.ensures.same)
    c.requests.invariant.carries in
    let told = c.in-Ok-answer_one.ensures.reply in
    record {
      sent = ap (λ (v : ConnectionView). v.output) c.drop_input.ensures ∙ c.in-Ok-answer_one.ensures.all;
      reserved = ap (λ (v : ConnectionView). v.reserved) c.drop_input.ensures ∙ c.answer_one.ensures.reserved;
      length = c.answer_one.ensures.length ∙ c.requests.invariant.length;
      carries =
          subst (λ (t : List ℕ). Carries g.H.Handler.replies c.args.handler.now c.args.connection.now.input (g.W.Write.contents c.args.writer.now)
          c.args.requests c.answer_one.new.handler t (g.W.Write.contents c.answer_one.new.writer) c.saturating_add-requests.result)
          (sym (ap (λ (v : ConnectionView). v.input) c.drop_input.ensures ∙ ap (drop frame.body.end) c.answer_one.ensures.input))
          (Frame_push g.H.Handler.replies _ _ _ c.args.requests _ input _ c.requests.requests c.next.new.fields frame found.0 input _ told.0 _ _
          carries found.1 found.1.is told.1 c.saturating_add-requests.result c.if-frame.false told.2
          c.saturating_add-requests.ensures);
    }

pub requests-init : goal.requests-init
requests-init g c = record {
  sent = c.requires.sent;
  reserved = c.requires.reserved;
  length = refl;
  carries = Carries_start g.H.Handler.replies c.args.handler.now c.args.connection.now.input (g.W.Write.contents c.args.writer.now)
      c.args.requests (omega (arith, c.ranges.requests.fits));
}

pub requests-smaller : goal.requests-smaller
requests-smaller g c =
    let frame = c.in-Whole.frame in
    let input = c.next.new.self.input in
    let found = subst (λ (v : ConnectionView). IsNext v.input c.next.new.fields (Whole frame)) (sym c.next.ensures.same) c.in-Whole.ensures.next in
    let within = found.1.body_within.1 in
    omega (
      arith,
      ap (λ (v : ConnectionView). length v.input) c.drop_input.ensures,
      ap length (ap (drop frame.body.end) c.answer_one.ensures.input),
      ap (λ (v : ConnectionView). length v.input) c.next.ensures.same,
      length-drop frame.body.end input,
      found.1.some,
      within,
    )
