-- Tiles inside of a tile.
use Rattle.std.specs.Prelude.{◌≡◌, ◌≤◌, ◌/◌, ◌-◌, ◌^◌, ℕ}

-- A tile is inside of another one: it is that tile, or one of a greater zoom in what that tile shows of the world, without its margin.
pub record IsInside (z x y inner_z inner_x inner_y : ℕ) : Type 0 where
  pub zoom : z ≤ inner_z
  pub column : inner_x / 2 ^ (inner_z - z) ≡ x
  pub row : inner_y / 2 ^ (inner_z - z) ≡ y
