-- How many bytes an archive of tiles has at most, and which areas it doesn't fit.
use Rattle.std.proofs.Common.{◌≡◌, ℕ, ◌+◌, ◌*◌, ◌<◌, ◌≤◌, inr, List, [], ◌∷◌, ◌++◌, length, refl, sym, ap, subst, arith}
use Rattle.feature_store.specs.Store.{FeatureMap, snapshot}
use Rattle.feature_store.specs.Tiles.{IsNextTile}
use Rattle.generations.specs.Areas.{sectors_of}
use Rattle.pm_build.specs.Bounded.{IsSize}
use Rattle.pm_build.specs.Building.{AreTooMany}
use Rattle.pm_build.specs.Runs.{AreLongestRuns}
use Rattle.pm_build.specs.Tiles.{Tile}
use Rattle.area_content.specs.Content.{ContentView, sectors_taken}
use Rattle.area_content.specs.Faults.{IsShort, AreAdded, HasManyTiles, IsBuiltFor, IsFull}

pub no_runs : AreLongestRuns [] []
no_runs = record { together = refl; each = tt; longest = tt }

-- no bytes are within the bound of no tiles
pub none_bounded : (ts : List Tile) (metadata bytes : List ℕ) → ts ≡ [] → bytes ≡ [] → IsSize ts metadata (length bytes)
none_bounded ts metadata bytes none empty =
    let low : length bytes ≤ 127 + length metadata + 64 * 0 + 0 = omega (arith, ap (λ (bs : List ℕ). length bs) empty) in
    let few : 0 ≤ 131072 = omega arith in
    let bounded : IsSize [] metadata (length bytes) = ([], [], no_runs, few, tt, tt, low) in
    subst (λ (us : List Tile). IsSize us metadata (length bytes)) (sym none) bounded

-- ---- faults

module _ (m : FeatureMap) (metadata : List ℕ) (area : ℕ) where
  -- an area of fewer sectors than these take
  pub full_of_both : (c : ContentView) → c.snapshot ≡ snapshot m → IsBuiltFor m metadata c.archive
      → area < sectors_taken c → IsFull m metadata area (sectors_taken c) area
  full_of_both c same built more =
      let need : sectors_taken c ≡ sectors_of (length (snapshot m)) + sectors_of (length c.archive) =
      ap (λ (bytes : List ℕ). sectors_of (length bytes) + sectors_of (length c.archive)) same in
      record { free_is = refl; above = more; needed = inr (c.archive, built, need) }

-- more entries than an archive takes
pub many_tiles : (m : FeatureMap) (from : ℕ) (ts : List Tile) (t : Tile) → AreAdded m from ts → IsNextTile m from t → IsShort t → AreTooMany (ts ++ t ∷ [])
    → HasManyTiles m
many_tiles m from ts t added next short many = record {
  from = from;
  before = ts;
  added = added;
  last = t;
  next = next;
  short = short;
  many = many;
}
