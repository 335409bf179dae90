use Rattle.std.proofs.Common.{◌<◌, ℕ, List, length, take, drop, sym, subst, arith}
use Rattle.std.specs.Io.KnownBytes.{Appends}
use Rattle.httparse.specs.Spans.{span_bytes}
use Rattle.http_requests.specs.Requests.{request_view_at, is_head}
use Rattle.http_serve.specs.Sent.{Sends}
use Rattle.http_serve.proofs.AnswerLemmas.{begins_reply, leaves_later}
use Rattle.http_serve.proofs.KnownLemmas.{Sent_first, Sends-then}
use Rattle.http_serve.proofs.serving.answer_one.Goals as goal

pub returns-in-Err-clause-reply : goal.returns-in-Err-clause-reply
returns-in-Err-clause-reply g c =
    let told = rw c.unwrap-rest.ensures at c.reply.ensures.replied in
    let output = c.reply.new.self.output in
    let bare = is_head (span_bytes c.args.connection.now.input c.args.frame.now.method) in
    let more = begins_reply c.args.frame.now.close bare told.reply c.unwrap-rest.result output told.shown in
    let sent = c.in-Err.ensures.sent in
    let P : List ℕ → Type 0 = λ t. (n : ℕ) × (n < length t)
    × Appends (g.W.Write.contents c.args.writer.now) (g.W.Write.contents c.send_output.new.writer) (take n t) in
    (told.reply, told.given, subst P (sym more.1) (Sent_first _ _ sent.0 output more.0 sent.1 sent.2))

pub returns-in-Some-clause-reply : goal.returns-in-Some-clause-reply
returns-in-Some-clause-reply g c =
    let told = rw c.in-Some.is at (rw c.unwrap-rest.ensures at c.reply.ensures.replied) in
    let input = c.args.connection.now.input in
    let asked = request_view_at input c.args.fields.now c.args.frame.now in
    let bare = is_head (span_bytes input c.args.frame.now.method) in
    let output = c.reply.new.self.output in
    let rest = c.in-Some.rest in
    let sent = c.send_each_part.ensures.sent c.args.handler.now asked told.reply told.left.0 told.given (sym told.shown.size_is) in (
      sent.0,
      sent.2,
      subst
          (λ (t : List ℕ). Sends c.send_each_part.result (g.W.Write.contents c.args.writer.now) (g.W.Write.contents c.send_each_part.new.writer) t)
          (sym (leaves_later c.args.frame.now.close bare told.reply sent.0 rest output told.shown sent.1))
          (Sends-then c.send_each_part.result _ _ _ output (drop rest.from sent.0.content) c.in-Ok.ensures.sent sent.3),
    )

pub returns-in-None-clause-reply : goal.returns-in-None-clause-reply
returns-in-None-clause-reply g c =
    let told = rw c.in-None.is at (rw c.unwrap-rest.ensures at c.reply.ensures.replied) in (
      told.reply,
      told.given,
      subst (λ (t : List ℕ). Appends (g.W.Write.contents c.args.writer.now) (g.W.Write.contents c.send_output.new.writer) t) told.shown
          c.in-Ok.ensures.sent,
    )

pub send_each_part-requires-clause-size : goal.send_each_part-requires-clause-size
send_each_part-requires-clause-size g c = (rw c.in-Some.is at (rw c.unwrap-rest.ensures at c.reply.ensures.replied)).left.1

pub send_each_part-requires-clause-within : goal.send_each_part-requires-clause-within
send_each_part-requires-clause-within g c =
    let told = rw c.in-Some.is at (rw c.unwrap-rest.ensures at c.reply.ensures.replied) in
    let some = told.shown.some in
    omega (arith, some)
