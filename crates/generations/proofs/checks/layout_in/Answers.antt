use Rattle.std.proofs.Common.{refl, arith}
use Rattle.generations.proofs.Layouts.{same_count, layout_there}
use Rattle.generations.proofs.checks.layout_in.Goals as goal

pub returns-in-Some : goal.returns-in-Some
returns-in-Some c = layout_there c.args.count c.args.sector.now c.in-Some.sectors c.of.result ((c.in-Some.ensures c.in-Some.sectors).0 refl)
    c.if-sectors-count.true c.of.ensures.size

pub returns-in_default : goal.returns-in_default
returns-in_default c = λ n is.
    omega (
      arith,
      same_count c.args.count c.args.sector.now c.in-Some.sectors n ((c.in-Some.ensures c.in-Some.sectors).0 refl) is,
      is.within,
      c.if-sectors-count.false,
    )

pub returns-in_default-2 : goal.returns-in_default-2
returns-in_default-2 c = λ n is. let none = (c.in_default.ensures n).1 (is.stands, omega (arith, is.size.1)) in cc
