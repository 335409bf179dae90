-- The archive of all tiles of a map.
use Rattle.std.proofs.Common.{◌≡◌, ℕ, ◌+◌, ◌≤◌, inr, List, [], ◌∷◌, ◌++◌, length, All, Result, Ok, Err, refl, ap, arith}
use Rattle.std.specs.Prelude.{IfOk}
use Rattle.std.specs.List.{concat}
use Rattle.std.proofs.lemmas.List.{length-append}
use Rattle.feature_store.specs.Store.{FeatureMap, IsMap, snapshot}
use Rattle.feature_store.specs.Tiles.{AreTiles}
use Rattle.generations.specs.Areas.{sectors_of}
use Rattle.pm_build.specs.declared.built.BuiltArchive.{BuiltArchive}
use Rattle.pm_build.specs.Bounded.{IsSize}
use Rattle.pm_build.specs.Built.{archive_bytes, tile_content}
use Rattle.pm_build.specs.Different.{contents_of}
use Rattle.pm_build.specs.Laid.{AreLaidOut}
use Rattle.pm_build.specs.Tiles.{Tile}
use Rattle.pm_build.specs.Vector.{IsVectorArchive}
use Rattle.pm_build.proofs.Laws.{contents_grow}
use Rattle.area_content.specs.Faults.{IsBuiltFor, IsFull, IsShort}
use Rattle.area_content.specs.Room.{AreBeyond}
use Rattle.area_content.specs.Tiles.{IsArchiveOfTiles}
use Rattle.area_content.proofs.MapTiles.{all_are_archive}

-- what was built of tiles, of which there are some
pub archive_built : {E : Type 0} (r : Result BuiltArchive E) (ts : List Tile) (metadata : List ℕ)
    → IfOk r (λ a. AreLaidOut (archive_bytes a) ts metadata) → IfOk r (λ a. IsVectorArchive (archive_bytes a) metadata (tile_content ts))
    → IfOk r (λ a. IsArchiveOfTiles ts metadata (archive_bytes a))
archive_built (Err fault) ts metadata laid archive = tt
archive_built (Ok a) ts metadata laid archive = inr (laid, archive)

module _ (m : FeatureMap) (metadata : List ℕ) where
  -- an archive of all tiles of a map
  pub built_for : (ts : List Tile) (archive : List ℕ) → IsMap m → AreTiles m ts → All IsShort ts → IsArchiveOfTiles ts metadata archive
      → IsSize ts metadata (length archive) → IsBuiltFor m metadata archive
  built_for ts archive is_map all short of_tiles bounded = record {
    of_map = all_are_archive m ts metadata archive is_map all of_tiles;
    tiles = ts;
    all = all;
    short = short;
    of_tiles = of_tiles;
    bounded = bounded;
  }

  pub all_built : {E : Type 0} (r : Result BuiltArchive E) (ts : List Tile) → IsMap m → AreTiles m ts → All IsShort ts
      → IfOk r (λ a. IsArchiveOfTiles ts metadata (archive_bytes a)) → IfOk r (λ a. IsSize ts metadata (length (archive_bytes a)))
      → IfOk r (λ a. IsBuiltFor m metadata (archive_bytes a))
  all_built (Err fault) ts is_map all short of_tiles bounded = tt
  all_built (Ok a) ts is_map all short of_tiles bounded = built_for ts (archive_bytes a) is_map all short of_tiles bounded

  -- what an area needs that counted tiles are beyond
  pub full_of_counted : (area : ℕ) (ts : List Tile) (archive : List ℕ) (need : ℕ) → IsBuiltFor m metadata archive → AreBeyond m metadata area ts
      → 127 + length metadata + length (concat (contents_of ts)) ≤ length archive
      → need ≡ sectors_of (length (snapshot m)) + sectors_of (length archive) → IsFull m metadata area need area
  full_of_counted area ts archive need built beyond least is = record {
    free_is = refl;
    above = omega (arith, beyond.above, least, is);
    needed = inr (archive, built, is);
  }

-- tiles beyond an area are beyond it with one more
pub beyond_more : (m : FeatureMap) (metadata : List ℕ) (area : ℕ) (ts : List Tile) (t : Tile) → AreBeyond m metadata area ts
    → AreBeyond m metadata area (ts ++ t ∷ [])
beyond_more m metadata area ts t beyond = record {
  some = λ none. omega (arith, ap (λ (us : List Tile). length us) none, length-append ts (t ∷ []));
  above = omega (arith, beyond.above, contents_grow ts t);
}
