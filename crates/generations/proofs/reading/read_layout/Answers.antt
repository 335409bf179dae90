use Rattle.std.proofs.Common.{inr, subst, sym, arith}
use Rattle.generations.specs.Sectors.{HasMark, IsFormat}
use Rattle.generations.proofs.reading.read_layout.Goals as goal

pub returns-in-None-clause-fault : goal.returns-in-None-clause-fault
returns-in-None-clause-fault g c = λ honest.
    let gives = c.in_ok-sector.ensures.gives honest in
    inr (
      omega (arith, c.count-count.ensures, c.if-count-eq0.false),
      subst HasMark gives (c.has_mark.ensures.0 c.if-not-has_mark.false),
      λ n is. c.in-None.ensures n (subst (λ k. IsFormat k c.in_ok-sector.sector n) (sym c.count-count.ensures)
          (subst (λ s. IsFormat (g.D.Sectors.sectors c.args.disk.now) s n) (sym gives) is)),
    )
