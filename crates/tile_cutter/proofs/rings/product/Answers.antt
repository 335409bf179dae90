use Rattle.std.proofs.Common.{sym, subst}
use Rattle.tile_cutter.specs.Range.{IsWithin}
use Rattle.tile_cutter.proofs.Areas.{product_is, within-mul}
use Rattle.tile_cutter.proofs.rings.product.Goals as goal

pub returns-clause-product : goal.returns-clause-product
returns-clause-product c = product_is c.args.a c.args.b _ _ c.from.ensures c.from-2.ensures c.requires.a_within c.requires.b_within

pub returns-clause-within : goal.returns-clause-within
returns-clause-within c =
    let is = product_is c.args.a c.args.b _ _ c.from.ensures c.from-2.ensures c.requires.a_within c.requires.b_within in
    subst (λ u. IsWithin 90 u) (sym is) (within-mul c.args.a c.args.b c.requires.a_within c.requires.b_within)
