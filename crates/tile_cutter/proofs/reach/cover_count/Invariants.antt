use Rattle.std.proofs.Common.{◌≡◌, ◌+◌, ◌-◌, ◌*◌, ◌^◌, ◌≤◌}
use Rattle.std.specs.Prelude.{sum_by}
use Rattle.std.specs.List.{range_with_len}
use Rattle.feature_model.specs.declared.limits.TheConstants.{MAX_ZOOM}
use Rattle.tile_cutter.specs.Covered.{tiles_of}
use Rattle.tile_cutter.specs.Widened.{range_of}
use Rattle.tile_cutter.proofs.reach.cover_count.Given as goal

-- the tiles so far, and those of the zooms that are left
abbrev pub invariant-loop-zoom : goal.invariant-loop-zoom
invariant-loop-zoom l = record {
  count : l.count + sum_by (λ z. tiles_of (range_of l.bounds z)) (range_with_len l.zoom (l.zoom-end - l.zoom))
      ≡ sum_by (λ z. tiles_of (range_of l.bounds z)) (range_with_len l.initial.zoom (l.zoom-end - l.initial.zoom));
  bound : l.count ≤ 4 ^ MAX_ZOOM * l.zoom;
}
