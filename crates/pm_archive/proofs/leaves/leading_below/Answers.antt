use Rattle.std.proofs.Common.{rules, sym, subst}
use Rattle.pm_archive.specs.Entries.{LiesIn}
use Rattle.pm_archive.specs.Looked.{leading_at}
use Rattle.pm_archive.proofs.leaves.leading_below.Goals as goal

pub returns-in-Some-clause-first : goal.returns-in-Some-clause-first
unfolding leading_at
returns-in-Some-clause-first g c = search rules

pub returns-in_err-leaf-clause-first : goal.returns-in_err-leaf-clause-first
unfolding leading_at
returns-in_err-leaf-clause-first g c = search rules

pub returns-clause-first : goal.returns-clause-first
unfolding leading_at
returns-clause-first g c = search rules

pub returns-clause-still_inside : goal.returns-clause-still_inside
returns-clause-still_inside g c = λ inside. c.insert.ensures.inside c.args.header.now
    (subst (LiesIn c.args.header.now.leaves) (sym c.in_ok-leaf.ensures.entry) c.in_ok-leaf.ensures.inside) inside
