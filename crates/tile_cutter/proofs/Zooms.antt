-- What proofs need of the greatest zoom: it is below 20, so that a zoom has fewer than 2^31 coordinates across.
use Rattle.std.proofs.Common.{ℕ, ◌*◌, ◌^◌, ◌<◌, ◌≤◌, arith}
use Rattle.std.proofs.Math.Nat.{mul-le-mul}
use Rattle.std.proofs.Math.Pow.{pow_mono}
use Rattle.feature_model.specs.declared.limits.TheConstants.{MAX_ZOOM}
use Rattle.tile_cutter.specs.Covered.{last_met}

pub zoom_low : (zoom : ℕ) → zoom ≤ MAX_ZOOM → zoom < 20
zoom_low zoom allowed = omega arith

-- a column, or a row, is below 2^19
pub side_low : (zoom at : ℕ) → zoom ≤ MAX_ZOOM → at < 2 ^ zoom → at < 2 ^ 19
side_low zoom at allowed within =
    let most : 2 ^ zoom ≤ 2 ^ 19 = pow_mono {i = zoom} {j = 19} (omega (arith, zoom_low zoom allowed)) in
    omega arith

-- the tiles of a zoom are a column's times a row's
pub tiles_low : (columns rows : ℕ) → columns ≤ 2 ^ MAX_ZOOM → rows ≤ 2 ^ MAX_ZOOM → columns * rows ≤ 4 ^ MAX_ZOOM
tiles_low columns rows across down = let most = mul-le-mul across down in omega (arith, most)

-- the last column, or row, that is met is one of the zoom
pub last_met_low : (zoom greatest : ℕ) → zoom ≤ MAX_ZOOM → last_met zoom greatest < 2 ^ MAX_ZOOM
last_met_low zoom greatest allowed =
    let most : 2 ^ zoom ≤ 2 ^ MAX_ZOOM = pow_mono {i = zoom} {j = MAX_ZOOM} allowed in
    omega (arith, most)
