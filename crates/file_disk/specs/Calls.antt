-- What a file was asked, what it answered, and what these calls make of a disk in it.
use Rattle.std.specs.Prelude.{◌≡◌, ◌<◌, ◌≤◌, ◌⊎◌, ◌*◌, ◌/◌, ℕ, List, [], ◌∷◌, Result, MatchResult, IsOk, IsErr, length, ⊤}
use Rattle.sector_disk.specs.declared.disk.TheConstants.{SECTOR_BYTES}
use Rattle.sector_disk.specs.Disk.{History, seen}
use Rattle.sector_disk.specs.Disk.History.{synced}
use Rattle.file_disk.specs.Runs.{wrote_run, Shows, Apart}
use Rattle.file_disk.specs.declared.run.TheConstants.{RUN_SECTORS}

-- a call of a file with its answer, at an offset in bytes
pub data Call : Type 0 where
  -- a read that gave these bytes
  gave : ℕ → List ℕ → Call
  -- a read of a run of sectors that gave these
  gave_run : ℕ → List (List ℕ) → Call
  -- a read that failed
  gave_none : ℕ → Call
  -- a write of these sectors that succeeded
  took : ℕ → List (List ℕ) → Call
  -- a write of these sectors that failed
  refused : ℕ → List (List ℕ) → Call
  -- a sync that succeeded
  flushed : Call
  -- a sync that failed
  not_flushed : Call

-- One call more than before, with the newest first: a read that left these bytes in its buffer.
abbrev pub NotesRead : {E : Type 0} → Result (Unit {0}) E → ℕ → List ℕ → List Call → List Call → Type 0
NotesRead result offset bytes old new = MatchResult result (λ _. new ≡ gave offset bytes ∷ old) (λ _. new ≡ gave_none offset ∷ old)

-- a read of a run of sectors
abbrev pub NotesRun : {E : Type 0} → Result (Unit {0}) E → ℕ → List (List ℕ) → List Call → List Call → Type 0
NotesRun result offset sectors old new = MatchResult result (λ _. new ≡ gave_run offset sectors ∷ old) (λ _. new ≡ gave_none offset ∷ old)

-- a write of these sectors
abbrev pub NotesWrite : {E : Type 0} → Result (Unit {0}) E → ℕ → List (List ℕ) → List Call → List Call → Type 0
NotesWrite result offset sectors old new = MatchResult result (λ _. new ≡ took offset sectors ∷ old) (λ _. new ≡ refused offset sectors ∷ old)

-- a sync
abbrev pub NotesSync : {E : Type 0} → Result (Unit {0}) E → List Call → List Call → Type 0
NotesSync result old new = MatchResult result (λ _. new ≡ flushed ∷ old) (λ _. new ≡ not_flushed ∷ old)

-- The history of a disk in a file that had this one as it was opened, after these calls. Sector n is stored from byte n * SECTOR_BYTES
-- on. A write that failed changes nothing here: its sectors stay in the disk's buffer, each a write of its own. A sync that
-- failed did nothing: so a crash may leave what it would have settled, and what was there before.
abbrev pub replayed : History → List Call → History
replayed found [] = found
replayed found (gave offset bytes ∷ before) = replayed found before
replayed found (gave_run offset sectors ∷ before) = replayed found before
replayed found (gave_none offset ∷ before) = replayed found before
replayed found (took offset sectors ∷ before) = wrote_run (offset / SECTOR_BYTES) sectors (replayed found before)
replayed found (refused offset sectors ∷ before) = replayed found before
replayed found (flushed ∷ before) = synced (replayed found before)
replayed found (not_flushed ∷ before) = replayed found before

-- No write and no sync has failed. After one that did, nothing is known of what a further one does to a file.
abbrev pub IsUsable : List Call → Type 0
IsUsable [] = ⊤
IsUsable (gave offset bytes ∷ before) = IsUsable before
IsUsable (gave_run offset sectors ∷ before) = IsUsable before
IsUsable (gave_none offset ∷ before) = IsUsable before
IsUsable (took offset sectors ∷ before) = IsUsable before
IsUsable (refused offset sectors ∷ before) = ⊥
IsUsable (flushed ∷ before) = IsUsable before
IsUsable (not_flushed ∷ before) = ⊥

-- The call goes with this history of the calls before it: a read that succeeded gave what it says, and a write or a sync
-- was asked for of a file that is usable.
abbrev pub GoesWith : History → List Call → Call → Type 0
GoesWith history before (gave offset bytes) = bytes ≡ seen history (offset / SECTOR_BYTES)
GoesWith history before (gave_run offset sectors) = Shows (seen history) (offset / SECTOR_BYTES) (length sectors) sectors
GoesWith history before (gave_none offset) = ⊤
GoesWith history before (took offset sectors) = IsUsable before
GoesWith history before (refused offset sectors) = IsUsable before
GoesWith history before flushed = IsUsable before
GoesWith history before not_flushed = IsUsable before

-- As far as the calls tell, the file had this history as it was opened.
abbrev pub IsHonest : History → List Call → Type 0
IsHonest found [] = ⊤
IsHonest found (call ∷ before) = IsHonest found before × GoesWith (replayed found before) before call

-- If the calls go with a history that the file had as it was opened, the first len of these sectors are what a read of the file
-- gives now, from sector first on. So it is for every such history.
abbrev pub UpToDate : List Call → ℕ → ℕ → List (List ℕ) → Type 0
UpToDate calls first len sectors = (found : History) → IsHonest found calls → Shows (seen (replayed found calls)) first len sectors

-- The newest call, if it is a read that succeeded, gave what this history says.
abbrev pub NewestFits : History → List Call → Type 0
NewestFits history [] = ⊤
NewestFits history (gave offset bytes ∷ before) = bytes ≡ seen history (offset / SECTOR_BYTES)
NewestFits history (gave_run offset sectors ∷ before) = Shows (seen history) (offset / SECTOR_BYTES) (length sectors) sectors
NewestFits history (gave_none offset ∷ before) = ⊤
NewestFits history (took offset sectors ∷ before) = ⊤
NewestFits history (refused offset sectors ∷ before) = ⊤
NewestFits history (flushed ∷ before) = ⊤
NewestFits history (not_flushed ∷ before) = ⊤

-- One call more: a read of a run from this sector on that succeeded, and that has none of the len sectors from first on.
abbrev pub GaveRun : ℕ → ℕ → ℕ → List Call → List Call → Type 0
GaveRun at first len old new = (sectors : List (List ℕ)) × (0 < length sectors) × (length sectors ≤ RUN_SECTORS) × Apart at (length sectors) first len
    × (new ≡ gave_run (at * SECTOR_BYTES) sectors ∷ old)

-- A read of the sector alone, which isn't one of the len sectors from first on. Before it there may be a read of a run that failed.
abbrev pub NotesOne : {E : Type 0} → Result (Unit {0}) E → ℕ → List ℕ → ℕ → ℕ → List Call → List Call → Type 0
NotesOne result at bytes first len old new = Apart at 1 first len
    × (NotesRead result (at * SECTOR_BYTES) bytes old new ⊎ NotesRead result (at * SECTOR_BYTES) bytes (gave_none (at * SECTOR_BYTES) ∷ old) new)

-- What a read of a sector asks of the file: nothing, or a run from that sector on, and then it succeeds; or that sector alone. The
-- file is never asked for one of the len sectors from first on, which are buffered.
abbrev pub AsksToRead : {E : Type 0} → Result (Unit {0}) E → ℕ → List ℕ → ℕ → ℕ → List Call → List Call → Type 0
AsksToRead result at bytes first len old new = (IsOk result × (new ≡ old)) ⊎ (IsOk result × GaveRun at first len old new)
    ⊎ NotesOne result at bytes first len old new

-- The buffered sectors, len of them, are written to the file if there are any.
abbrev pub WritesBack : {E : Type 0} → Result (Unit {0}) E → ℕ → ℕ → List (List ℕ) → List Call → List Call → Type 0
WritesBack result offset len sectors old new = MatchResult result
    (λ _. ((len ≡ 0) × (new ≡ old)) ⊎ (new ≡ took offset sectors ∷ old))
    (λ _. new ≡ refused offset sectors ∷ old)

-- What a write asks of the file: nothing, or to write the sectors that were buffered before, and it fails if that fails.
abbrev pub AsksToWrite : {E : Type 0} → Result (Unit {0}) E → ℕ → List (List ℕ) → List Call → List Call → Type 0
AsksToWrite result offset sectors old new = (IsOk result × (new ≡ old)) ⊎ NotesWrite result offset sectors old new

-- What a sync asks of the file: to write the buffered sectors, if there are any, and it fails if that fails; else a sync.
abbrev pub AsksToSync : {E : Type 0} → Result (Unit {0}) E → ℕ → ℕ → List (List ℕ) → List Call → List Call → Type 0
AsksToSync result offset len sectors old new = ((len ≡ 0) × NotesSync result old new)
    ⊎ (IsErr result × (new ≡ refused offset sectors ∷ old)) ⊎ NotesSync result (took offset sectors ∷ old) new
