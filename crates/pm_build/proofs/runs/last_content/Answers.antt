use Rattle.std.proofs.Common.{◌-◌, ◌<◌, length, sym, arith}
use Rattle.std.proofs.lemmas.Bool.Decides.{nat_tests}
use Rattle.pm_build.specs.declared.run.Run.{Run}
use Rattle.pm_build.proofs.Adding.{last_from_at}
use Rattle.pm_build.proofs.runs.last_content.Goals as goal

-- what an index behind the end would give
abbrev none : Run
none = record { first = 0; count = 0; place = 0 }

pub returns : goal.returns
returns c =
    let runs = c.args.runs.now in
    let more : 0 < length runs = grind (arith, nat_tests, c.is_empty.ensures, c.if-is_empty.false) in
    last_from_at c.args.contents.now.index.contents runs (length runs - 1) none c.at.result.now (omega (arith, more)) (sym c.at.ensures)
