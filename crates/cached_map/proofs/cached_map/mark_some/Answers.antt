use Rattle.std.proofs.Common.{subst, sym}
use Rattle.tile_cache.specs.Touched.{StaysElsewhere, Remembers}
use Rattle.cached_map.specs.Cached.{with_box}
use Rattle.cached_map.proofs.cached_map.mark_some.Goals as goal

pub returns-in-Some-clause-stays : goal.returns-in-Some-clause-stays
returns-in-Some-clause-stays c marks first before =
    subst (λ o. StaysElsewhere (with_box o c.args.number marks) first c.mark.new.self) (sym c.in-Some.is) (c.mark.ensures.stays marks first before)

pub returns-in_default-clause-stays : goal.returns-in_default-clause-stays
returns-in_default-clause-stays c marks first before =
    subst (λ o. StaysElsewhere (with_box o c.args.number marks) first c.args.touched.now) (sym c.in_default.is) before

pub returns-in-Some-clause-remembers : goal.returns-in-Some-clause-remembers
returns-in-Some-clause-remembers c marks before =
    subst (λ o. Remembers c.mark.new.self (with_box o c.args.number marks)) (sym c.in-Some.is) (c.mark.ensures.remembers marks before)

pub returns-in_default-clause-remembers : goal.returns-in_default-clause-remembers
returns-in_default-clause-remembers c marks before =
    subst (λ o. Remembers c.args.touched.now (with_box o c.args.number marks)) (sym c.in_default.is) before
