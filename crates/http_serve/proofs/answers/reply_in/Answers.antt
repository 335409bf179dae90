use Rattle.std.proofs.Common.{◌≡◌, ◌∙◌, ap, subst, Bool}
use Rattle.httparse.specs.Spans.{span_bytes}
use Rattle.http_requests.specs.Requests.{request_view_at, is_head}
use Rattle.http_serve.specs.Connections.{IsToSend}
use Rattle.http_serve.proofs.AnswerLemmas.{front_shown, rest_sends}
use Rattle.http_serve.proofs.answers.reply_in.Goals as goal

pub returns-clause-replied : goal.returns-clause-replied
returns-clause-replied g c =
    let told = c.ask-reply.ensures.replied in
    let bare = c.is_head-bare.result in
    let close = c.args.frame.now.close in
    let asked = request_view_at c.args.bytes.now c.args.fields.now c.args.frame.now in
    let is_bare : bare ≡ is_head (span_bytes c.args.bytes.now c.args.frame.now.method) = c.is_head-bare.ensures ∙ ap is_head c.of.ensures in
    let rest = c.rest_of-rest.result in
    record {
      reply = told.0;
      given = told.2;
      shown =
          subst (λ (b : Bool). IsToSend close b told.0 rest c.put.new.self.waiting) is_bare
          (front_shown close bare c.ask-reply.result told.0 told.1 rest c.put.new.self.waiting c.put.ensures.waiting
          c.rest_of-rest.ensures.left c.rest_of-rest.ensures.none);
      left =
          rest_sends close bare c.ask-reply.result told.0 told.1 rest (g.H.Handler.sends c.args.handler.now asked told.0 c.ask-reply.new.handler)
          (g.H.Handler.size c.ask-reply.new.handler) c.rest_of-rest.ensures.left told.3;
    }
