use Rattle.std.proofs.Common.{◌≡◌, ◌+◌, ◌-◌, ◌^◌, ◌<◌, ◌≤◌, ap, sym, subst, ◌∙◌, arith}
use Rattle.std.specs.Prelude.{sum_by}
use Rattle.std.specs.List.{range_with_len}
use Rattle.feature_model.specs.Data.{feature_data}
use Rattle.feature_model.specs.declared.limits.TheConstants.{MAX_ZOOM}
use Rattle.tile_cutter.specs.Covered.{tiles_of}
use Rattle.tile_cutter.specs.Widened.{range_of}
use Rattle.tile_cutter.proofs.Boxes.{sum_next, reach_is}
use Rattle.tile_cutter.proofs.Zooms.{last_met_low}
use Rattle.tile_cutter.proofs.reach.cover_count.Goals as goal

pub tiles_of-count-requires-clause-columns : goal.tiles_of-count-requires-clause-columns
tiles_of-count-requires-clause-columns c =
    let allowed : c.loop-zoom.zoom ≤ MAX_ZOOM = omega (arith, c.loop-zoom-test.true, c.requires) in
    subst (λ r. r.x1 < 2 ^ MAX_ZOOM) (sym c.range_of.ensures) (last_met_low c.loop-zoom.zoom _ allowed)

pub tiles_of-count-requires-clause-rows : goal.tiles_of-count-requires-clause-rows
tiles_of-count-requires-clause-rows c =
    let allowed : c.loop-zoom.zoom ≤ MAX_ZOOM = omega (arith, c.loop-zoom-test.true, c.requires) in
    subst (λ r. r.y1 < 2 ^ MAX_ZOOM) (sym c.range_of.ensures) (last_met_low c.loop-zoom.zoom _ allowed)

pub overflow_add-count : goal.overflow_add-count
overflow_add-count c = record { fits = omega (arith, c.loop-zoom.invariant.bound, c.tiles_of-count.ensures.bound, c.requires, c.loop-zoom-test.true) }

pub loop-zoom-preserved : goal.loop-zoom-preserved
loop-zoom-preserved c =
    let zoom = c.loop-zoom.zoom in
    let here = c.tiles_of-count.ensures.tiles ∙ ap tiles_of c.range_of.ensures in
    let next = sum_next (λ z. tiles_of (range_of c.bounds_of-bounds.result z)) zoom (c.args.feature.now.maxzoom + 1) c.loop-zoom-test.true in
    record {
      count = omega (arith, here, next, c.loop-zoom.invariant.count);
      bound = omega (arith, c.loop-zoom.invariant.bound, c.tiles_of-count.ensures.bound);
    }

pub returns : goal.returns
returns c =
    let f = feature_data c.args.feature.now in
    let done : f.maxzoom + 1 - c.loop-zoom.zoom ≡ 0 = omega (arith, c.loop-zoom-test.false) in
    let whole = c.loop-zoom.invariant.count in
    let nothing_left = ap (λ n. sum_by (λ z. tiles_of (range_of c.bounds_of-bounds.result z)) (range_with_len c.loop-zoom.zoom n)) done in
    omega (arith, whole, nothing_left, reach_is f c.bounds_of-bounds.result c.bounds_of-bounds.ensures)
