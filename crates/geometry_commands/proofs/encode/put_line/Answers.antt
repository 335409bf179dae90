use Rattle.std.proofs.lemmas.Grind.{common_steps}
use Rattle.std.proofs.Common.{◌≡◌, ◌∷◌, [], ◌-◌, length, take, drop, get_or, refl, sym, ◌∙◌, arith}
use Rattle.std.proofs.lemmas.List.{append-nil}
use Rattle.std.proofs.lemmas.Result.{IfOk-from_err}
use Rattle.geometry_commands.specs.Commands.{command, origin}
use Rattle.geometry_commands.specs.Shapes.{close_spelled}
use Rattle.geometry_commands.proofs.Written.{split_first, line_written}
use Rattle.geometry_commands.proofs.encode.put_line.Goals as goal

pub returns-then-closed-clause-line : goal.returns-then-closed-clause-line
returns-then-closed-clause-line c =
    let line = c.args.line.now in
    let others = c.put_steps-last.new.out.items in
    let close : close_spelled c.args.closed ≡ command 7 1 ∷ [] = rw c.if-closed.true refl in
    let all = line_written c.args.closed c.args.from (get_or line 0 origin) (take (length line - 1) (drop 1 line))
    line c.times.result c.times-2.result c.args.out.now.items c.push_reserved.new.self.items c.put_step.new.out.items c.push_reserved-2.new.self.items others
    (split_first line origin (omega arith)) c.times.ensures c.times-2.ensures
    (rw c.in_ok-reserve.ensures.items at c.push_reserved.ensures.items) c.put_step.ensures.step
    c.push_reserved-2.ensures.items c.put_steps-last.ensures.steps in
    c.push_reserved-then-closed.ensures.items ∙ rw c.times-then-closed.ensures (rw close at all)

pub returns-else-closed-clause-line : goal.returns-else-closed-clause-line
returns-else-closed-clause-line c =
    let line = c.args.line.now in
    let others = c.put_steps-last.new.out.items in
    let close : close_spelled c.args.closed ≡ [] = rw c.if-closed.false refl in
    let all = line_written c.args.closed c.args.from (get_or line 0 origin) (take (length line - 1) (drop 1 line))
    line c.times.result c.times-2.result c.args.out.now.items c.push_reserved.new.self.items c.put_step.new.out.items c.push_reserved-2.new.self.items others
    (split_first line origin (omega arith)) c.times.ensures c.times-2.ensures
    (rw c.in_ok-reserve.ensures.items at c.push_reserved.ensures.items) c.put_step.ensures.step
    c.push_reserved-2.ensures.items c.put_steps-last.ensures.steps in
    sym (append-nil others) ∙ rw close at all

pub put_steps-last-requires-clause-near : goal.put_steps-last-requires-clause-near
put_steps-last-requires-clause-near c = grind (arith, common_steps)

pub returns-then-closed-clause-last : goal.returns-then-closed-clause-last
returns-then-closed-clause-last c = grind (arith, common_steps)

pub returns-then-closed-clause-whole : goal.returns-then-closed-clause-whole
returns-then-closed-clause-whole c = grind (arith, common_steps)

pub returns-else-closed-clause-last : goal.returns-else-closed-clause-last
returns-else-closed-clause-last c = grind (arith, common_steps)

pub returns-else-closed-clause-whole : goal.returns-else-closed-clause-whole
returns-else-closed-clause-whole c = grind (arith, common_steps)

-- ---- room

pub push_reserved-requires : goal.push_reserved-requires
push_reserved-requires c = omega (arith, c.in_ok-reserve.ensures.ok)

pub put_step-requires-clause-room : goal.put_step-requires-clause-room
put_step-requires-clause-room c = omega (arith, c.in_ok-reserve.ensures.ok, c.push_reserved.ensures.len, c.push_reserved.ensures.capacity)

-- ---- no memory

pub returns-in_err-reserve-clause-line : goal.returns-in_err-reserve-clause-line
returns-in_err-reserve-clause-line c = IfOk-from_err c.from_residual.result _ c.from_residual.ensures.0

pub returns-in_err-reserve-clause-last : goal.returns-in_err-reserve-clause-last
returns-in_err-reserve-clause-last c = IfOk-from_err c.from_residual.result _ c.from_residual.ensures.0

pub returns-in_err-reserve-clause-whole : goal.returns-in_err-reserve-clause-whole
returns-in_err-reserve-clause-whole c = IfOk-from_err c.from_residual.result _ c.from_residual.ensures.0
