-- Laws of the curve, for the crates above: it goes through each tile of its zoom, and through each once.
use Rattle.std.proofs.Common.{◌≡◌, ℕ, ◌^◌, ◌<◌}
use Rattle.hilbert_id.specs.Curve.{StandsAt}
use Rattle.hilbert_id.proofs.Positions.{reached, one_position, filled}

-- each tile of a zoom stands in its curve
pub curve_reaches : (z x y : ℕ) → x < 2 ^ z → y < 2 ^ z → (n : ℕ) × (n < 4 ^ z) × StandsAt z x y n
curve_reaches = reached

-- a tile stands there once
pub curve_passes_once : (z x y n m : ℕ) → StandsAt z x y n → StandsAt z x y m → n ≡ m
curve_passes_once = one_position

-- at each position of the curve stands a tile of the zoom
pub curve_is_filled : (z n : ℕ) → n < 4 ^ z → (x : ℕ) × (y : ℕ) × (x < 2 ^ z) × (y < 2 ^ z) × StandsAt z x y n
curve_is_filled = filled
