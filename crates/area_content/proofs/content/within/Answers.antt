use Rattle.std.proofs.Common.{ℕ, sym, subst, arith}
use Rattle.area_content.specs.Faults.{IsFull}
use Rattle.area_content.proofs.Bounds.{full_of_both}
use Rattle.area_content.proofs.content.within.Goals as goal

pub returns-then-need-area-clause-full : goal.returns-then-need-area-clause-full
returns-then-need-area-clause-full c m metadata same archive =
    subst (λ (need : ℕ). IsFull m metadata c.args.area need c.args.area) (sym c.sectors-need.ensures)
    (full_of_both m metadata c.args.area c.args.content same archive (omega (arith, c.if-need-area.true, c.sectors-need.ensures)))
