use Rattle.std.proofs.Common.{rules, refl, ◌∙◌}
use Rattle.std.specs.Int.{w32}
use Rattle.std.specs.Int.RustNames.{FitsSigned}
use Rattle.std.proofs.Math.Facts.{to_z-of_z}
use Rattle.pm_header.specs.Layout.{header_at}
use Rattle.pm_header.proofs.Fields.{same_header}
use Rattle.pm_header.proofs.reading.fields.Goals as goal

pub returns : goal.returns
unfolding header_at
returns c =
    let f1 : FitsSigned w32 c.position.result = search rules in
    let f2 : FitsSigned w32 c.position-2.result = search rules in
    let f3 : FitsSigned w32 c.position-3.result = search rules in
    let f4 : FitsSigned w32 c.position-4.result = search rules in
    let f5 : FitsSigned w32 c.position-5.result = search rules in
    let f6 : FitsSigned w32 c.position-6.result = search rules in
    same_header _ (header_at c.args.bytes.now)
    c.part.ensures
    c.part-2.ensures
    c.part-3.ensures
    c.part-4.ensures
    c.number.ensures
    c.number-2.ensures
    c.number-3.ensures
    refl
    refl
    refl
    refl
    refl
    refl
    (to_z-of_z f1 ∙ c.position.ensures)
    (to_z-of_z f2 ∙ c.position-2.ensures)
    (to_z-of_z f3 ∙ c.position-3.ensures)
    (to_z-of_z f4 ∙ c.position-4.ensures)
    refl
    (to_z-of_z f5 ∙ c.position-5.ensures)
    (to_z-of_z f6 ∙ c.position-6.ensures)
