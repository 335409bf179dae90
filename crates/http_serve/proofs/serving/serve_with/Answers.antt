use Rattle.std.proofs.Common.{refl}
use Rattle.http_serve.proofs.ServeLemmas.{served_input, if_ok, most_start}
use Rattle.http_serve.proofs.serving.serve_with.Goals.{in-Some, in-None}
use Rattle.http_serve.proofs.serving.serve_with.Goals as goal

pub returns-clause-serves : goal.returns-clause-serves
returns-clause-serves g c = elim c.match-buffers.branch [
  | in-Some w ↦
      let call = w.serve_session.ensures in
      let result = w.serve_session.result in
      rw (w.reader-is, w.writer-is, w.handler-is, w.result-is) (record {
        input = if_ok result _ _ (λ served. served_input g.H.Handler.replies _ _ _ served _ _ _) call.served;
        served = call.served;
        fault = call.fault;
        content = call.content;
        turns = call.turns;
        reads = call.reads;
      })
  | in-None w ↦ rw (w.reader-is, w.writer-is, w.handler-is, w.result-is) (record {
    input = tt;
    served = tt;
    fault = (refl, refl, refl);
    content = tt;
    turns = tt;
    reads = most_start (g.R.Read.remaining c.args.reader.now) 0;
  })
]
