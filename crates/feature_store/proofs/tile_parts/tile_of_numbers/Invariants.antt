use Rattle.std.proofs.Common.{◌≡◌}
use Rattle.feature_store.specs.Parts.{IsInMaking, work_left}
use Rattle.feature_store.proofs.tile_parts.tile_of_numbers.Given as goal

abbrev pub invariant-loop-parts : goal.invariant-loop-parts
invariant-loop-parts l = record {
  making : IsInMaking l.moment.features l.parts;
  at : l.parts.at ≡ l.fn.at;
}

abbrev pub decreases-loop-parts : goal.decreases-loop-parts
decreases-loop-parts l = work_left l.parts
