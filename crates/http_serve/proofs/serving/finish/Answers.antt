use Rattle.std.proofs.lemmas.Grind.{common_steps}
use Rattle.std.proofs.Common.{refl, arith}
use Rattle.http_requests.specs.Requests.{refused}
use Rattle.http_serve.specs.Reply.{refusal_bytes}
use Rattle.http_serve.proofs.serving.finish.Goals as goal

pub returns-in-Ok-clause-ends : goal.returns-in-Ok-clause-ends
returns-in-Ok-clause-ends g c = λ head bare. record {
  ending = refused head c.args.reason.refusal;
  last = refusal_bytes head c.args.reason.refusal;
  told = refl;
  plain = refl;
  ends = λ is. (omega (arith, c.input_len.ensures, c.if-input_len-eq0.false), is);
  written = c.in-Ok.ensures.sent head bare;
  counted = c.saturating_add.ensures;
}

pub returns-in-Err-clause-fault : goal.returns-in-Err-clause-fault
returns-in-Err-clause-fault g c = λ head bare.
    let sent = c.in-Err.ensures.sent head bare in
    record {
      some = omega (arith, c.input_len.ensures, c.if-input_len-eq0.false);
      count = sent.0;
      cut = sent.1;
      told = refl;
      written = sent.2;
    }

pub returns-then-input_len-eq0-clause-ends : goal.returns-then-input_len-eq0-clause-ends
returns-then-input_len-eq0-clause-ends g c = grind (arith, common_steps)
