-- The bytes of an archive, as they were copied to a writer.
use Rattle.std.specs.Prelude.{◌≡◌, ◌<◌, ℕ, List, length, take, drop, Option, Result, MatchResult}
use Rattle.std.specs.Io.KnownBytes.{Appends}
use Rattle.sector_bytes.specs.Source.{AreItsBytes}
use Rattle.sector_disk.specs.Disk.{History, HasFailed, seen}
use Rattle.published_tiles.specs.declared.place.ArchivePlace.{ArchivePlace}
use Rattle.archive_export.specs.declared.copying.CopyFault.{CopyFault}
use Rattle.archive_export.specs.declared.copying.CopyFault.TheVariants.{Device, Write}

-- With the fault Device a call of the disk has failed, and with Write none has.
abbrev pub CountsDevice : CopyFault → (old new : ℕ) → Type 0
CountsDevice Device old new = HasFailed old new
CountsDevice Write old new = new ≡ old

-- The fault of a result says whether a call of the disk has failed, and success says that none has.
abbrev pub TellsDevice : {T : Type 0} → Result T CopyFault → (old new : ℕ) → Type 0
TellsDevice result old new = MatchResult result (λ _. new ≡ old) (λ fault. CountsDevice fault old new)

module _ {D : Type 0} (honest : D → Type 0) (history : D → History) (place : ArchivePlace) where
  -- count bytes were written, and on an honest disk they are those of the archive at this place, from one on
  abbrev pub CopiesBytes : D → (at count : ℕ) → D → Option (List ℕ) → Option (List ℕ) → Type 0
  CopiesBytes old at count new held holds = (bytes : List ℕ) × (length bytes ≡ count) × Appends held holds bytes
      × ((archive : List ℕ) → AreItsBytes place.first place.len archive (seen (history old)) → honest new → bytes ≡ take count (drop at archive))

  -- as many bytes were written as the archive has, and on an honest disk they are the archive
  abbrev pub CopiesArchive : D → D → Option (List ℕ) → Option (List ℕ) → Type 0
  CopiesArchive old new held holds = (bytes : List ℕ) × (length bytes ≡ place.len) × Appends held holds bytes
      × ((archive : List ℕ) → AreItsBytes place.first place.len archive (seen (history old)) → honest new → bytes ≡ archive)

  -- fewer than count bytes were written, and on an honest disk they are those of the archive at this place, from one on
  abbrev pub CopiesFewer : D → (at count : ℕ) → D → Option (List ℕ) → Option (List ℕ) → Type 0
  CopiesFewer old at count new held holds = (bytes : List ℕ) × (length bytes < count) × Appends held holds bytes
      × ((archive : List ℕ) → AreItsBytes place.first place.len archive (seen (history old)) → honest new → bytes ≡ take (length bytes) (drop at archive))
