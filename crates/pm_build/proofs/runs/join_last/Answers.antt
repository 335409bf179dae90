use Rattle.std.proofs.lemmas.Grind.{common_steps}
use Rattle.std.proofs.Common.{◌-◌, ◌<◌, length, refl, ◌∙◌, arith}
use Rattle.std.proofs.lemmas.Bool.Decides.{nat_tests}
use Rattle.pm_build.specs.declared.run.Run.{Run}
use Rattle.pm_build.proofs.Adding.{goes_on_by, last_end_at, last_kept, last_set, places_set, place_at}
use Rattle.pm_build.proofs.runs.join_last.Goals as goal

-- what an index behind the end would give
abbrev none : Run
none = record { first = 0; count = 0; place = 0 }

pub goes_on-requires : goal.goes_on-requires
goes_on-requires c =
    let runs = c.args.runs.now in
    let more : 0 < length runs = grind (arith, nat_tests, c.is_empty.ensures, c.if-is_empty.false) in
    omega (arith, c.requires, last_end_at runs (length runs - 1) none (omega (arith, more)))

pub returns-then-not-goes_on-clause-joins : goal.returns-then-not-goes_on-clause-joins
returns-then-not-goes_on-clause-joins c contents last =
    let runs = c.args.runs.now in
    let more : 0 < length runs = grind (arith, nat_tests, c.is_empty.ensures, c.if-is_empty.false) in
    c.if-not-goes_on.ensures
    ∙ goes_on_by contents runs (length runs - 1) none c.args.last.now (c.args.id, c.args.content.now) (omega (arith, more)) last

pub returns-clause-joins : goal.returns-clause-joins
returns-clause-joins c contents last =
    let runs = c.args.runs.now in
    let more : 0 < length runs = grind (arith, nat_tests, c.is_empty.ensures, c.if-is_empty.false) in
    c.if-not-goes_on.ensures
    ∙ goes_on_by contents runs (length runs - 1) none c.args.last.now (c.args.id, c.args.content.now) (omega (arith, more)) last

pub returns-clause-last : goal.returns-clause-last
returns-clause-last c contents last =
    let runs = c.args.runs.now in
    let more : 0 < length runs = grind (arith, nat_tests, c.is_empty.ensures, c.if-is_empty.false) in
    last_kept contents runs (length runs - 1) none _ c.args.last.now (omega (arith, more)) refl last

pub returns-clause-runs : goal.returns-clause-runs
returns-clause-runs c contents =
    let runs = c.args.runs.now in
    let more : 0 < length runs = grind (arith, nat_tests, c.is_empty.ensures, c.if-is_empty.false) in
    last_set contents runs (length runs - 1) none _ (omega (arith, more)) refl

pub returns-clause-places : goal.returns-clause-places
returns-clause-places c contents places =
    let runs = c.args.runs.now in
    let more : 0 < length runs = grind (arith, nat_tests, c.is_empty.ensures, c.if-is_empty.false) in
    places_set contents runs (length runs - 1) _ (place_at contents runs (length runs - 1) none (omega (arith, more)) places) places

pub returns-then-not-goes_on-clause-runs : goal.returns-then-not-goes_on-clause-runs
returns-then-not-goes_on-clause-runs c = grind (arith, common_steps)

pub returns-then-not-goes_on-clause-places : goal.returns-then-not-goes_on-clause-places
returns-then-not-goes_on-clause-places c = grind (arith, common_steps)

pub returns-then-not-goes_on-clause-unchanged : goal.returns-then-not-goes_on-clause-unchanged
returns-then-not-goes_on-clause-unchanged c = grind (arith, common_steps)
