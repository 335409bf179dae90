use Rattle.std.proofs.Common.{◌≡◌, true, rules}
use Rattle.tile_routes.specs.Number.{begins_plain}
use Rattle.tile_routes.proofs.Digits.{short-is, short-small}
use Rattle.tile_routes.proofs.number.path_number.Goals as goal

pub returns-then-text-le-MAX_SHORT-clause-number : goal.returns-then-text-le-MAX_SHORT-clause-number
returns-then-text-le-MAX_SHORT-clause-number c =
    let plain : begins_plain c.args.text.now ≡ true = search rules in
    short-is c.args.text.now c.short_number.result plain c.if-text-le-MAX_SHORT.true c.short_number.ensures

pub returns-then-text-le-MAX_SHORT-clause-small : goal.returns-then-text-le-MAX_SHORT-clause-small
returns-then-text-le-MAX_SHORT-clause-small c =
    short-small c.args.text.now c.short_number.result c.if-text-le-MAX_SHORT.true c.short_number.ensures
