use Rattle.std.proofs.Common.{◌≤◌, length, ap, arith}
use Rattle.edit_text.proofs.PointSteps.{points_first, points_none}
use Rattle.edit_text.proofs.lists.PointsIterator.next.Goals as goal

pub returns-then-self-lt-POINT_LEN-clause-steps : goal.returns-then-self-lt-POINT_LEN-clause-steps
returns-then-self-lt-POINT_LEN-clause-steps c =
    let none = points_none c.args.self.now.rest.now c.if-self-lt-POINT_LEN.true in
    (none, none)

pub returns-clause-steps : goal.returns-clause-steps
returns-clause-steps c =
    let some : 8 ≤ length c.args.self.now.rest.now = omega (arith, c.if-self-lt-POINT_LEN.false) in
    rw (c.point_in.ensures.point, c.point_in.ensures.rest) (points_first c.args.self.now.rest.now some)

pub returns-clause-goes : goal.returns-clause-goes
returns-clause-goes c = let h = ap length (returns-clause-steps c) in record { on = λ _. (tt, tt, omega (arith, h)); keeps = tt; rests = λ _. tt }
