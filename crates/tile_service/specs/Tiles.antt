-- What a service knows of earlier maps, and where its archive is stored.
use Rattle.std.specs.Prelude.{◌≤◌, ◌+◌, ℕ, List, length, take}
use Rattle.cached_map.specs.Cached.{WasMap}
use Rattle.edit_text.specs.Recorded.{RecordedEdit}
use Rattle.feature_store.specs.Store.{FeatureMap}
use Rattle.tile_service.specs.After.{after}
use Rattle.generations.specs.Areas.{archive_start}
use Rattle.published_tiles.specs.declared.place.ArchivePlace.{ArchivePlace}

-- The map has the last edit number last, and cells has the newest edit of each cell of the world. The map was made by these edits from
-- first, whose last edit has the number start. The map after any prefix of them is known, for the tiles that no later edit can have
-- changed.
abbrev pub WereMaps : (m : FeatureMap) (cells : List ℕ) (last start : ℕ) (first : FeatureMap) → List RecordedEdit → Type 0
WereMaps m cells last start first edits = (k : ℕ) → k ≤ length edits → WasMap m cells last (start + k) (after first (take k edits))

-- where the archive of a generation is stored: after its snapshot
abbrev pub archive_place : (size generation snapshot_len archive_len : ℕ) → ArchivePlace
archive_place size generation snapshot_len archive_len = record {
  generation = generation;
  first = archive_start size generation snapshot_len;
  len = archive_len;
}
