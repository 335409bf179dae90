use Rattle.std.proofs.Common.{refl, sym, subst, take, [], Some, Ok}
use Rattle.http_serve.specs.declared.connection.Answer.{Answer}
use Rattle.http_serve.specs.Found.{ServesFound}
use Rattle.http_serve.proofs.FoundLemmas.{serves_replied}
use Rattle.http_serve.proofs.connection.Connection.answer_request.Goals as goal

pub returns-in-Ok-clause-serves : goal.returns-in-Ok-clause-serves
returns-in-Ok-clause-serves g c =
    let found = c.requires.found in
    subst (λ (answer : Answer). ServesFound g.H.Handler.replies g.H.Handler.sends c.args.handler.now
    (take c.args.frame.now.body.end c.args.self.now.input) (Some []) (Ok answer) c.reply.new.handler (Some c.reply.new.self.output))
    (sym c.answered.ensures)
    (serves_replied g.H.Handler.replies g.H.Handler.sends c.args.handler.now (Some []) c.args.self.now.input c.args.fields.now
    c.args.frame.now found.0 found.1 c.reply.new.handler (Some c.reply.new.self.output) c.in-Ok.rest g.H.Handler.size c.reply.new.self.output
    refl refl c.in-Ok.ensures.replied)
