use Rattle.std.specs.Prelude.{ℕ, take}
use Rattle.http_serve.specs.Connections.{PreparesNext}
use Rattle.http_listen.specs.Connections.{AreSteps}
use Rattle.http_listen.proofs.connections.prepare_for.Given as goal

abbrev pub invariant-steps : goal.invariant-steps
invariant-steps g l =
    (steps : ℕ) × AreSteps (PreparesNext g.H.Prepares.prepares l.initial.number (take l.initial.frame.body.end l.initial.connection.input)) steps
    l.initial.handler l.handler
