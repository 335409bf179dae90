use Rattle.std.proofs.Common.{false}
use Rattle.http_listen.proofs.Cases.{came}
use Rattle.http_listen.proofs.connections.serve_front.Goals as goal

pub returns-clause-comes : goal.returns-clause-comes
returns-clause-comes g c =
    (_, _, _, _, came g.H.Handler.replies g.H.Handler.sends _ _ _ _ _ c.answer-outcome.result c.answer-outcome.ensures.serves)

pub returns-clause-answers : goal.returns-clause-answers
returns-clause-answers g c =
    (_, came g.H.Handler.replies g.H.Handler.sends _ _ _ _ _ c.answer-outcome.result c.answer-outcome.ensures.serves false)
