use Rattle.std.proofs.Common.{◌≡◌, ◌⊎◌, Some, inl, inr}
use Rattle.tile_walk.specs.declared.step.Step.TheVariants.{Over}
use Rattle.feature_store.proofs.Steps.{on_further}
use Rattle.feature_store.proofs.tiles_left.walk_on.Goals.{in-Over+in-Some+in-Some-walk-3, in-Over+in-Some+in-None-1, in-Over+in-None-1, in_default-found}
use Rattle.feature_store.proofs.tiles_left.walk_on.Goals as goal

pub returns-clause-further : goal.returns-clause-further
returns-clause-further c zoom read =
    let found = c.in_ok-found.found in
    let new = c.step.new.self in
    let after : (found ≡ Over) ⊎ (c.match-found.walk ≡ Some new) = elim c.match-found.branch [
      | in-Over+in-Some+in-Some-walk-3 w ↦ inl w.in-Over.is
      | in-Over+in-Some+in-None-1 w ↦ inl w.in-Over.is
      | in-Over+in-None-1 w ↦ inl w.in-Over.is
      | in_default-found w ↦ inr w.walk-is
    ] in
    on_further zoom read c.args.walk.now c.match-found.walk c.in-Some.tiles new found c.in-Some.is c.in_ok-found.ensures.further after
