-- Laws of the sectors of an area's content, of its first tiles, and of maps with too many tiles, for the crates above.
use Rattle.std.proofs.Common.{◌≡◌, ℕ, ◌+◌, ◌-◌, ◌<◌, false, List, [], ◌∷◌, ◌++◌, length, take, replicate, refl, subst, arith, ltb}
use Rattle.std.proofs.lemmas.Bool.{lt-ltb, le-ltb}
use Rattle.std.proofs.lemmas.List.{take_at}
use Rattle.feature_store.specs.Store.{FeatureMap}
use Rattle.feature_store.specs.Tiles.{AreTiles}
use Rattle.feature_store.proofs.Below.{first_of_all, none_below, one_more}
use Rattle.generations.specs.Areas.{sectors_of}
use Rattle.pm_build.specs.declared.limit.TheConstants.{MAX_ENTRIES}
use Rattle.pm_build.specs.Runs.{TileRun, AreLongestRuns}
use Rattle.pm_build.specs.Tiles.{Tile}
use Rattle.pm_build.proofs.Joining.{too_many_behind}
use Rattle.area_content.specs.Drafts.{HasAdded}
use Rattle.area_content.specs.Faults.{HasManyTiles}
use Rattle.area_content.proofs.Bounds.{no_runs}
use Rattle.sector_bytes.specs.Bytes.{sector_piece}
use Rattle.area_content.specs.Content.{ContentView, padded, sector_at}

begins : (bytes : List ℕ) → take (length bytes) (padded bytes) ≡ bytes
begins bytes = take_at bytes (replicate (512 - length bytes) 0) (length bytes) refl

-- A sector of the snapshot begins with that piece of it.
pub snapshot_sector : (c : ContentView) (index : ℕ) → index < sectors_of (length c.snapshot)
    → take (length (sector_piece c.snapshot index)) (sector_at c index) ≡ sector_piece c.snapshot index
snapshot_sector c index within = rw (lt-ltb index (sectors_of (length c.snapshot)) within) (begins (sector_piece c.snapshot index))

-- After the sectors of the snapshot, a sector begins with a piece of the archive.
pub archive_sector : (c : ContentView) (index : ℕ)
    → take (length (sector_piece c.archive index)) (sector_at c (sectors_of (length c.snapshot) + index)) ≡ sector_piece c.archive index
archive_sector c index =
    let n = sectors_of (length c.snapshot) in
    let behind : ltb (n + index) n ≡ false = le-ltb (n + index) n (omega arith) in
    let index_is : n + index - n ≡ index = omega arith in
    rw (behind, index_is) (begins (sector_piece c.archive index))

-- If the tiles up to one need more entries than an archive has, all tiles of the map do.
pub all_are_many : (m : FeatureMap) → HasManyTiles m → (tiles : List Tile) (runs : List TileRun)
    → AreTiles m tiles → AreLongestRuns tiles runs → MAX_ENTRIES < length runs
all_are_many m many tiles runs are longest =
    let ts = many.before ++ many.last ∷ [] in
    let behind = first_of_all m (many.last.0 + 1) ts tiles (one_more m many.from many.before many.last many.added.below many.next) are in
    too_many_behind ts behind.0 runs many.many (subst (λ (ts : List Tile). AreLongestRuns ts runs) behind.1 longest)

-- At first no tile is added, and an archive of none has no entry.
pub none_is_added : (m : FeatureMap) → HasAdded m (record { count = 0; entries = 0 })
none_is_added m = (0, record { tiles = []; below = none_below m; count_is = refl; entries_are = ([], no_runs, refl) })
