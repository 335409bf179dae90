-- A publication in the making, before its archive is there: what it is of, apart from any disk.
use Rattle.std.specs.Prelude.{◌≡◌, ◌≤◌, ◌+◌, ◌-◌, ◌%◌, ℕ, length, take}
use Rattle.generations.specs.Areas.{journal_sectors}
use Rattle.edit_journal.specs.Ring.{places_of}
use Rattle.edit_journal.specs.declared.journal.JournalPosition.{JournalPosition}
use Rattle.feature_store.specs.Store.{FeatureMap}
use Rattle.tile_service.specs.Publishing.{map_at}
use Rattle.tile_service.specs.Stored.{Stored, stored_records}

-- where the journal continued when it began, how many of its places were in use then, and the map then
pub record DraftedView : Type 0 where
  pub start : JournalPosition
  pub places : ℕ
  pub features : FeatureMap

-- how many of the edits since the snapshot came before it
abbrev pub count_of : Stored → DraftedView → ℕ
count_of stored d = d.start.edits - stored.edits

-- It is of the map after the first of the edits since. It says nothing of an archive, and nothing of what a disk has.
pub record IsDrafted (n : ℕ) (stored : Stored) (d : DraftedView) : Type 0 where
  pub later : stored.edits ≤ d.start.edits
  pub within : count_of stored d ≤ length stored.since
  pub map_is : d.features ≡ map_at stored (count_of stored d)
  pub place_is : d.start.place ≡ (stored.journal_at + places_of (take (count_of stored d) (stored_records stored))) % journal_sectors n
  pub places_are : d.places ≡ places_of (take (count_of stored d) (stored_records stored))
