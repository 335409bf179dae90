-- Edits and their records.
use Rattle.std.specs.Prelude.{◌≡◌, ◌⊎◌, ◌+◌, ℕ, List, [], ◌∷◌, length, map, All}
use Rattle.cached_map.specs.Cached.{CachedView}
use Rattle.edit_journal.specs.Records.{RecordData}
use Rattle.edit_text.specs.Recorded.{RecordedEdit, IsRecorded}
use Rattle.tile_service.specs.After.{after}
use Rattle.generations.specs.declared.fault.StoreFault.{StoreFault}
use Rattle.generations.specs.declared.fault.StoreFault.TheVariants.{Damaged, Memory}
use Rattle.generations.specs.declared.fault.What.TheVariants.{Text}
use Rattle.tile_service.specs.Stored.{record_for}
use Rattle.tile_service.specs.Tiles.{WereMaps}

-- the record is that of this edit
pub record IsRecordFor (r : RecordData) (e : RecordedEdit) : Type 0 where
  pub recorded : IsRecorded e
  pub record_is : r ≡ record_for e

-- the records are those of these edits
pub record AreRecordsFor (records : List RecordData) (edits : List RecordedEdit) : Type 0 where
  pub are_recorded : All IsRecorded edits
  pub are_records : records ≡ map record_for edits

-- The edits of the records were applied to a map in order, and the map after any prefix of them is known.
pub record AreMade (records : List RecordData) (old new : CachedView) : Type 0 where
  pub edits : List RecordedEdit
  pub are_records : AreRecordsFor records edits
  pub map_is : new.features ≡ after old.features edits
  pub were : WereMaps new.features new.touched new.last old.last old.features edits

-- the total length in bytes of the texts of records
abbrev pub bytes_of : List RecordData → ℕ
bytes_of [] = 0
bytes_of (r ∷ records) = length r.text + bytes_of records

-- why a record isn't applied: an allocation fails, or the record isn't that of an edit
abbrev pub IsRecordFault : RecordData → StoreFault → Type 0
IsRecordFault r fault = (fault ≡ Memory) ⊎ ((fault ≡ Damaged Text) × ((e : RecordedEdit) → IsRecordFor r e → ⊥))

-- why records aren't replayed: an allocation fails, or one of them isn't that of an edit
abbrev pub IsReplayFault : List RecordData → StoreFault → Type 0
IsReplayFault records fault = (fault ≡ Memory) ⊎ ((fault ≡ Damaged Text) × ((edits : List RecordedEdit) → AreRecordsFor records edits → ⊥))
