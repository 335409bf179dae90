-- Edits that a run listed, and the edits that a disk has from then on.
use Rattle.std.specs.Prelude.{◌≡◌, ◌<◌, ◌+◌, ◌-◌, ℕ, List, length, map, take, drop, Option, Ok}
use Rattle.sector_disk.specs.Disk.{Image}
use Rattle.edit_journal.specs.Records.{RecordData}
use Rattle.edit_text.specs.Recorded.{RecordedEdit}
use Rattle.tile_service.specs.Machine.{Happening, list_edits}
use Rattle.tile_service.specs.Runs.{Way, happening_at, ImageFits}
use Rattle.tile_service.specs.Stored.{Stored, record_for}

-- Of the edits after a start, the records are those of the edits from a number on.
abbrev pub AreNumbered : Stored → (number : ℕ) → List RecordData → List RecordedEdit → Type 0
AreNumbered start number records edits = records ≡ map record_for (take (length records) (drop (number - (start.edits + 1)) edits))

-- A call of a run returned the records of the edits from a number on: that of an edit after those of the snapshot at the start, whether it
-- has been published since or not.
pub record IsListed (start : Stored) (happenings : List Happening) (index number : ℕ) (records : List RecordData) : Type 0 where
  pub bytes : ℕ
  pub is : happening_at happenings index ≡ list_edits number bytes (Ok records)
  pub after : start.edits < number

-- Each edit that one of the first k calls of a run listed is one of these, under its number.
abbrev pub HasListed : Stored → List Happening → (k : ℕ) → List RecordedEdit → Type 0
HasListed start happenings k edits =
    (index number : ℕ) (records : List RecordData) → index < k → IsListed start happenings index number records → AreNumbered start number records edits

-- The image holds some first edits of the run, and each edit that was listed by the first k calls is one of them.
pub record KeepsListed (sectors n : ℕ) (start : Stored) (way : Option Way) (happenings : List Happening) (k : ℕ) (image : Image) : Type 0 where
  pub fits : ImageFits sectors n start way happenings k image
  pub listed : HasListed start happenings k (take fits.i fits.edits)
