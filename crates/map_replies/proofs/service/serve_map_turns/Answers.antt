use Rattle.http_serve.proofs.ServeLemmas.{if_ok, if_err}
use Rattle.map_replies.proofs.Connections.{connection_runs, ended_connection_runs}
use Rattle.map_replies.proofs.service.serve_map_turns.Goals as goal

pub returns : goal.returns
returns g c =
    let d = g.D.Sectors in
    let call = c.serve_with.ensures.serves in
    let result = c.serve_with.result in
    record {
      input = call.input;
      served = if_ok result _ _ (λ end. connection_runs d.sectors d.honest d.history d.faults _ _ _ end _ _ _) call.served;
      fault = if_err result _ _ (λ why. ended_connection_runs d.sectors d.honest d.history d.faults _ _ _ why _ _ _) call.fault;
      content = call.content;
      turns = call.turns;
      reads = call.reads;
    }
