use Rattle.std.proofs.Common.{◌≡◌, map, drop, None}
use Rattle.std.specs.Prelude.{flat_map}
use Rattle.tile_cutter.specs.Covered.{all_of}
use Rattle.tile_cutter.specs.Widened.{bounds_after}
use Rattle.tile_cutter.specs.Passes.{lists_of}
use Rattle.tile_cutter.proofs.reach.bounds_of_polygons.Given as goal

-- the box so far, and of what is left
abbrev pub invariant-loop-rings : goal.invariant-loop-rings
invariant-loop-rings l =
    bounds_after l.bounds (flat_map (λ p. all_of (lists_of p.items)) (drop l.rings-index l.polygons))
    ≡ bounds_after None (flat_map all_of (map (λ p. lists_of p.items) l.polygons))
