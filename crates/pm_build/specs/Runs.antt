-- Runs: tiles of consecutive ids with equal contents.
use Rattle.std.specs.Prelude.{◌≡◌, ℕ, zero, suc, ◌+◌, ◌<◌, ◌^◌, List, [], ◌∷◌, ◌++◌, ⊤}
use Rattle.std.specs.List.{AllByRecursion}
use Rattle.pm_build.specs.Tiles.{Tile}

-- `count` tiles from this id on, all with this content
pub record TileRun : Type 0 where
  pub first : ℕ
  pub count : ℕ
  pub content : List ℕ

abbrev pub repeated : ℕ → ℕ → List ℕ → List Tile
repeated id zero content = []
repeated id (suc more) content = (id, content) ∷ repeated (suc id) more content

-- the tiles of the runs, one run after the other
abbrev pub tiles_in : List TileRun → List Tile
tiles_in [] = []
tiles_in (r ∷ rs) = repeated r.first r.count r.content ++ tiles_in rs

-- two runs, one after the other, could be one
pub record CanJoin (r s : TileRun) : Type 0 where
  pub follows : s.first ≡ r.first + r.count
  pub same : s.content ≡ r.content
  pub room : r.count + 1 < 2 ^ 32

abbrev pub NoneJoin : List TileRun → Type 0
NoneJoin [] = ⊤
NoneJoin (r ∷ []) = ⊤
NoneJoin (r ∷ s ∷ rs) = (¬ CanJoin r s) × NoneJoin (s ∷ rs)

-- The tiles are these runs, of at most 2 ^ 32 - 1 tiles each, and none could go on with a tile of the next.
pub record AreLongestRuns (tiles : List Tile) (runs : List TileRun) : Type 0 where
  pub together : tiles_in runs ≡ tiles
  pub each : AllByRecursion (λ r. (0 < r.count) × (r.count < 2 ^ 32)) runs
  pub longest : NoneJoin runs
