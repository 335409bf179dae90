-- A file stays honest while its answers are what its history says: for the crates above.
use Rattle.std.proofs.Common.{◌≡◌, ◌/◌, ◌∷◌, ℕ, List, length}
use Rattle.sector_disk.specs.Disk.{History, seen}
use Rattle.sector_disk.specs.declared.disk.TheConstants.{SECTOR_BYTES}
use Rattle.file_disk.specs.Calls.{Call, replayed, IsUsable, IsHonest}
use Rattle.file_disk.specs.Calls.Call.{gave, gave_run, gave_none, took, refused, flushed, not_flushed}
use Rattle.file_disk.specs.Runs.{Shows}

-- A read that gives what the history says keeps it so, whatever was asked before.
pub read_stays_honest : (found : History) (calls : List Call) (offset : ℕ) (bytes : List ℕ) → IsHonest found calls
    → bytes ≡ seen (replayed found calls) (offset / SECTOR_BYTES) → IsHonest found (gave offset bytes ∷ calls)
read_stays_honest found calls offset bytes honest is = (honest, is)

-- So does one of several sectors.
pub run_stays_honest : (found : History) (calls : List Call) (offset : ℕ) (sectors : List (List ℕ)) → IsHonest found calls
    → Shows (seen (replayed found calls)) (offset / SECTOR_BYTES) (length sectors) sectors → IsHonest found (gave_run offset sectors ∷ calls)
run_stays_honest found calls offset sectors honest is = (honest, is)

-- A read that fails does too.
pub failed_read_stays_honest : (found : History) (calls : List Call) (offset : ℕ) → IsHonest found calls → IsHonest found (gave_none offset ∷ calls)
failed_read_stays_honest found calls offset honest = (honest, tt)

-- A write keeps it so where no write and no sync has failed before.
pub write_stays_honest : (found : History) (calls : List Call) (offset : ℕ) (sectors : List (List ℕ)) → IsHonest found calls
    → IsUsable calls → IsHonest found (took offset sectors ∷ calls)
write_stays_honest found calls offset sectors honest usable = (honest, usable)

-- A write that fails does too, where it is the first call to fail of those.
pub failed_write_stays_honest : (found : History) (calls : List Call) (offset : ℕ) (sectors : List (List ℕ)) → IsHonest found calls
    → IsUsable calls → IsHonest found (refused offset sectors ∷ calls)
failed_write_stays_honest found calls offset sectors honest usable = (honest, usable)

-- The same of a sync.
pub sync_stays_honest : (found : History) (calls : List Call) → IsHonest found calls → IsUsable calls → IsHonest found (flushed ∷ calls)
sync_stays_honest found calls honest usable = (honest, usable)

-- The same of a sync that fails.
pub failed_sync_stays_honest : (found : History) (calls : List Call) → IsHonest found calls → IsUsable calls → IsHonest found (not_flushed ∷ calls)
failed_sync_stays_honest found calls honest usable = (honest, usable)
