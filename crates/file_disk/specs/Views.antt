-- What the words of the trait say of a disk in a file.
use Rattle.std.specs.Prelude.{ℕ, List}
use Rattle.sector_disk.specs.Disk.{History}
use Rattle.file_disk.specs.Calls.{Call, replayed, IsUsable, IsHonest}
use Rattle.file_disk.specs.Notes.{recorded_calls}
use Rattle.file_disk.specs.Runs.{wrote_first}
use Rattle.file_disk.specs.declared.file.FileDisk.{FileDisk}

-- the sectors and the faults of a disk in a file
abbrev pub file_sectors : {F S : Type 0} → FileDisk F S → ℕ
file_sectors disk = disk.count

abbrev pub file_faults : {F S : Type 0} → FileDisk F S → ℕ
file_faults disk = disk.faults.count

-- the calls of its file
abbrev pub file_calls : {F S : Type 0} → FileDisk F S → List Call
file_calls disk = recorded_calls disk.file

-- its history, by what the file had as it was opened: what its file was asked, and then the writes of the buffered sectors
abbrev pub file_history : {F S : Type 0} → History → FileDisk F S → History
file_history found disk = wrote_first disk.behind.first disk.behind.len disk.behind.sectors (replayed found (file_calls disk))

-- by the same, the calls of its file go with its history
abbrev pub FileIsHonest : {F S : Type 0} → History → FileDisk F S → Type 0
FileIsHonest found disk = IsHonest found (file_calls disk)

-- no write and no sync of its file has failed
abbrev pub FileIsUsable : {F S : Type 0} → FileDisk F S → Type 0
FileIsUsable disk = IsUsable (file_calls disk)
