use Rattle.std.proofs.Common.{suc}
use Rattle.http_listen.proofs.Preparations.{step_more}
use Rattle.http_listen.proofs.connections.prepare_for.Goals as goal

pub returns-in-Ready : goal.returns-in-Ready
returns-in-Ready g c =
    let made = c.steps.invariant in
    (suc made.0, step_more _ made.0 _ _ _ made.1 c.prepare.ensures)

pub returns-in-Waits : goal.returns-in-Waits
returns-in-Waits g c =
    let made = c.steps.invariant in
    (suc made.0, step_more _ made.0 _ _ _ made.1 c.prepare.ensures)

pub returns-in-Rests : goal.returns-in-Rests
returns-in-Rests g c =
    let made = c.steps.invariant in
    (suc made.0, step_more _ made.0 _ _ _ made.1 c.prepare.ensures)

pub returns-then-ge : goal.returns-then-ge
returns-then-ge g c =
    let made = c.steps.invariant in
    (suc made.0, step_more _ made.0 _ _ _ made.1 c.prepare.ensures)

pub steps-preserved : goal.steps-preserved
steps-preserved g c =
    let made = c.steps.invariant in
    (suc made.0, step_more _ made.0 _ _ _ made.1 c.prepare.ensures)
