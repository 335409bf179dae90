-- The stages of a draft differ.
use Rattle.std.proofs.Common.{◌≡◌, Bool, true, false, ap}
use Rattle.std.proofs.lemmas.Bool.{false≢true}
use Rattle.area_content.specs.declared.draft.Stage.{Stage}
use Rattle.area_content.specs.declared.draft.Stage.TheVariants.{Going, Made, Failed}

abbrev is_made : Stage → Bool
is_made Going = false
is_made Made = true
is_made Failed = false

pub going_not_made : Going ≡ Made → ⊥
going_not_made is = false≢true (ap is_made is)
