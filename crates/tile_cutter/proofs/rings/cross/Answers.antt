use Rattle.std.proofs.Common.{refl, sym, subst, ◌∙◌}
use Rattle.tile_cutter.specs.Range.{IsWithin}
use Rattle.tile_cutter.proofs.Areas.{fits_sub, sub_is, is_64, within-sub}
use Rattle.tile_cutter.proofs.rings.cross.Goals as goal

pub overflow_sub-result : goal.overflow_sub-result
overflow_sub-result c = fits_sub c.product.result c.product-2.result c.product.ensures.within c.product-2.ensures.within

pub returns-clause-cross : goal.returns-clause-cross
returns-clause-cross c =
    let is = sub_is c.product.result c.product-2.result c.product.ensures.within c.product-2.ensures.within in
    let from = c.args.from in
    let to = c.args.to in
    let from_x = is_64 from.x c.requires.from_small.across in
    let from_y = is_64 from.y c.requires.from_small.down in
    let to_x = is_64 to.x c.requires.to_small.across in
    let to_y = is_64 to.y c.requires.to_small.down in
    is ∙ rw (c.product.ensures.product, c.product-2.ensures.product, from_x, from_y, to_x, to_y) refl

pub returns-clause-within : goal.returns-clause-within
returns-clause-within c =
    let is = sub_is c.product.result c.product-2.result c.product.ensures.within c.product-2.ensures.within in
    subst (λ u. IsWithin 91 u) (sym is) (within-sub c.product.result c.product-2.result c.product.ensures.within c.product-2.ensures.within)
