use Rattle.std.proofs.Common.{◌≡◌, ap, length, refl, ◌∙◌, arith}
use Rattle.http_requests.specs.Requests.{refused}
use Rattle.http_serve.specs.Connections.{ConnectionView}
use Rattle.http_serve.specs.Reply.{refusal_bytes}
use Rattle.http_serve.specs.declared.connection.Answer.{Answer}
use Rattle.http_serve.proofs.connection.Connection.answer_rest.Goals as goal

pub returns-in-Ok-clause-ends : goal.returns-in-Ok-clause-ends
returns-in-Ok-clause-ends c = λ head bare.
    let counted : c.whole-in-Ok.result.served.requests ≡ 1 = ap (λ (a : Answer). a.served.requests) c.whole-in-Ok.ensures in
    record {
      ending = refused head c.args.reason.refusal;
      last = refusal_bytes head c.args.reason.refusal;
      told = ap (λ (a : Answer). a.served.end) c.whole-in-Ok.ensures;
      plain = refl;
      ends = λ is. (omega (arith, c.if-len-eq0.false, c.len.ensures, ap (λ (v : ConnectionView). length v.input) c.self.view_is), is);
      written = c.in-Ok.ensures.refused head bare;
      counted = omega (arith, counted);
    }
