use Rattle.std.proofs.Common.{arith, rules}
use Rattle.tile_routes.proofs.Digits.{fits-more}
use Rattle.tile_routes.proofs.number.short_number.Goals as goal

pub overflow_mul-number : goal.overflow_mul-number
overflow_mul-number c =
    let small = fits-more c.args.text.now c.loop-i.i c.loop-i.number c.loop-i.invariant c.loop-i-test.true c.requires in
    omega (arith, small)

pub overflow_add-number : goal.overflow_add-number
overflow_add-number c =
    let small = fits-more c.args.text.now c.loop-i.i c.loop-i.number c.loop-i.invariant c.loop-i-test.true c.requires in
    let digit = c.from.ensures in
    search (rules, arith)
