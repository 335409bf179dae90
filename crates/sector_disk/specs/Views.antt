-- What the words of the trait say of the disks of this crate.
use Rattle.std.specs.Prelude.{ℕ}
use Rattle.sector_disk.specs.Disk.{History}
use Rattle.sector_disk.specs.DiskMemory.{history_of}
use Rattle.sector_disk.specs.declared.disk_memory.DiskMemory.{DiskMemory}
use Rattle.sector_disk.specs.declared.memory.MemoryDisk.{MemoryDisk}

-- the history that goes with what is kept
abbrev pub kept_history : DiskMemory → History
kept_history kept = history_of kept.past

-- the history, the sectors and the faults of a disk in memory
abbrev pub memory_history : MemoryDisk → History
memory_history disk = kept_history disk.kept

abbrev pub memory_sectors : MemoryDisk → ℕ
memory_sectors disk = disk.count

abbrev pub memory_faults : MemoryDisk → ℕ
memory_faults disk = disk.faults.count
