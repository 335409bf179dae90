use Rattle.std.proofs.Common.{◌≡◌, drop}
use Rattle.std.specs.Prelude.{flat_map}
use Rattle.tile_cutter.specs.Covered.{all_of}
use Rattle.tile_cutter.specs.Widened.{bounds_after}
use Rattle.tile_cutter.specs.Passes.{lists_of}
use Rattle.tile_cutter.proofs.reach.widened_by_lists.Given as goal

-- the box so far, and of what is left
abbrev pub invariant-loop-list : goal.invariant-loop-list
invariant-loop-list l =
    bounds_after l.bounds (flat_map (λ v. v.items) (drop l.list-index l.lists)) ≡ bounds_after l.initial.bounds (all_of (lists_of l.lists))
