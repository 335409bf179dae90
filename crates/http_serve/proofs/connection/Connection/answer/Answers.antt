use Rattle.std.proofs.Common.{[], List, ℕ, Some, ap, sym, subst, take}
use Rattle.http_requests.specs.Inputs.{found_end}
use Rattle.http_serve.specs.Connections.{ConnectionView}
use Rattle.http_serve.specs.Found.{ServesFound}
use Rattle.http_serve.proofs.connection.Connection.answer.Goals as goal

pub returns-clause-serves : goal.returns-clause-serves
returns-clause-serves g c =
    rw c.requires.found.1 (subst (λ (out : List ℕ). ServesFound g.H.Handler.replies g.H.Handler.sends c.args.handler.now
    (take (found_end c.args.self.now.input c.args.asked.found) c.args.self.now.input) (Some []) c.answer_found-answer.result
    c.answer_found-answer.new.handler (Some out))
    (sym (ap (λ (v : ConnectionView). v.output) c.drop_input.ensures)) c.answer_found-answer.ensures.serves)
