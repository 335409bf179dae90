use Rattle.feature_store.proofs.Near.{found_near}
use Rattle.feature_store.proofs.indexed.numbers_near.Goals as goal

pub returns : goal.returns
returns c =
    let at = c.args.at in
    found_near c.tile_box.result at.z at.x at.y c.tile_box.ensures.nothing_apart (λ v. v.items) c.args.index.now.entries c.query.result
    c.query.ensures.in_order
