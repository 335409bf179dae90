use Rattle.std.proofs.Common.{◌≡◌, ◌-◌, ◌++◌, vec_len, sym, ap, ◌∙◌, arith}
use Rattle.tile_walk.specs.Squares.{left_of, weight, weights}
use Rattle.tile_walk.proofs.Tiles.{left_last, weights_last, of_none, empty}
use Rattle.tile_walk.proofs.squares.push_quarter.Goals as goal

pub returns-in_ok-push-clause-left : goal.returns-in_ok-push-clause-left
returns-in_ok-push-clause-left c =
    ap left_of c.in_ok-push.ensures.items ∙ left_last c.args.squares.now.items c.quarter_of-part.result
    ∙ ap (λ t. t ++ left_of c.args.squares.now.items) c.quarter_of-part.ensures.tiles

pub returns-in_ok-push-clause-weight : goal.returns-in_ok-push-clause-weight
returns-in_ok-push-clause-weight c =
    let height : c.quarter_of-part.result.zoom ≡ c.args.square.now.zoom - 1 = omega (arith, c.quarter_of-part.ensures.zoom) in
    omega (
      arith,
      ap weights c.in_ok-push.ensures.items,
      weights_last c.args.squares.now.items c.quarter_of-part.result,
      ap weight height,
    )

pub returns-else-not-is_empty-clause-left : goal.returns-else-not-is_empty-clause-left
returns-else-not-is_empty-clause-left c =
    let none = empty c.quarter_of-part.result.boxes.items (vec_len c.quarter_of-part.result.boxes) c.is_empty.result c.quarter_of-part.result.boxes.ok.0
    c.is_empty.ensures
    c.if-not-is_empty.false in
    ap (λ t. t ++ left_of c.args.squares.now.items) (sym (of_none c.quarter_of-part.result none) ∙ c.quarter_of-part.ensures.tiles)
