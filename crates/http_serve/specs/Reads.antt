-- The sequence of reads on a connection.
use Rattle.std.specs.Prelude.{◌≡◌, ◌<◌, ◌≤◌, ℕ, List, length, Option}
use Rattle.std.proofs.Common.{suc}
use Rattle.std.specs.Io.KnownBytes.{Consumes}
use Rattle.http_serve.specs.Buffers.{buffer_size}

-- for readers, given what remains to be read from them, if this is known
module _ {R : Type 0} (remaining : R → Option (List ℕ)) where
  -- a read returned at least one byte, and at most the size of the buffer
  pub record Gives (old new : R) : Type 0 where
    pub bytes : List ℕ
    pub some : 0 < length bytes
    pub few : length bytes ≤ buffer_size
    pub given : Consumes (remaining old) (remaining new) bytes

  -- this many reads in sequence, each of which returned bytes
  pub record GivesTimes (reads : ℕ) (old new : R) : Type 0 where
    -- the reader after the first k reads
    pub by : ℕ → R
    pub begins : by 0 ≡ old
    pub each : (k : ℕ) → k < reads → Gives (by k) (by (suc k))
    pub ends : by reads ≡ new
