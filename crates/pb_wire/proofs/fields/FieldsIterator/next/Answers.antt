use Rattle.std.proofs.Common.{◌≡◌, ◌<◌, ◌-◌, length, arith, ap, drop, take}
use Rattle.std.proofs.lemmas.Grind.{common_steps}
use Rattle.pb_wire.specs.Message.{field_view}
use Rattle.pb_wire.proofs.Message.{items_first, items_fault, items_none, back}
use Rattle.pb_wire.proofs.fields.FieldsIterator.next.Goals as goal

pub returns-then-is_empty-clause-steps : goal.returns-then-is_empty-clause-steps
returns-then-is_empty-clause-steps c =
    let s = c.args.self.now in
    let none : length s.rest.now ≡ 0 = grind (arith, common_steps) in
    (items_none s.rest.now s.at none, items_none s.rest.now s.at none)

pub returns-in-Ok-clause-steps : goal.returns-in-Ok-clause-steps
returns-in-Ok-clause-steps c =
    let s = c.args.self.now in
    let some : 0 < length s.rest.now = grind (arith, common_steps) in
    items_first s.rest.now s.at (field_view c.in-Ok.field) c.in-Ok.len (take (length s.rest.now - c.in-Ok.len) (drop c.in-Ok.len s.rest.now))
    some c.in-Ok.ensures.exact (back s.rest.now c.in-Ok.len)

pub returns-in-Ok-clause-goes : goal.returns-in-Ok-clause-goes
returns-in-Ok-clause-goes c = let h = ap length (returns-in-Ok-clause-steps c) in record { on = λ _. (tt, tt, omega (arith, h)); keeps = tt; rests = λ _. tt }

pub returns-in-Err-clause-steps : goal.returns-in-Err-clause-steps
returns-in-Err-clause-steps c =
    let s = c.args.self.now in
    let some : 0 < length s.rest.now = grind (arith, common_steps) in
    items_fault s.rest.now s.at c.in-Err.kind some c.in-Err.ensures.exact

pub returns-in-Err-clause-goes : goal.returns-in-Err-clause-goes
returns-in-Err-clause-goes c = let h = ap length (returns-in-Err-clause-steps c) in record { on = λ _. (tt, tt, omega (arith, h)); keeps = tt; rests = λ _. tt }
