use Rattle.std.proofs.Common.{◌-◌, ◌<◌, length, arith}
use Rattle.std.proofs.lemmas.Bool.Decides.{nat_tests}
use Rattle.pm_build.specs.declared.run.Run.{Run}
use Rattle.pm_build.proofs.Adding.{last_end_at}
use Rattle.pm_build.proofs.runs.end_of.Goals as goal

-- what an index behind the end would give
abbrev none : Run
none = record { first = 0; count = 0; place = 0 }

pub overflow_add-result : goal.overflow_add-result
overflow_add-result c =
    let runs = c.args.runs.now in
    let some : 0 < length runs = grind (arith, nat_tests, c.is_empty.ensures, c.if-is_empty.false) in
    omega (arith, c.requires, last_end_at runs (length runs - 1) none (omega (arith, some)), c.from.ensures)

pub returns : goal.returns
returns c =
    let runs = c.args.runs.now in
    let some : 0 < length runs = grind (arith, nat_tests, c.is_empty.ensures, c.if-is_empty.false) in
    omega (arith, last_end_at runs (length runs - 1) none (omega (arith, some)), c.from.ensures)
