-- A disk that others write while it is read: what its reads give, and what the images are of a disk that is served meanwhile.
use Rattle.std.specs.Prelude.{◌≡◌, ◌⊎◌, ◌≤◌, ◌<◌, ◌+◌, ◌++◌, ℕ, List, length, take, Result, Option, MatchResult, MatchOption}
use Rattle.sector_disk.specs.Disk.{History, Image}
use Rattle.edit_journal.specs.Records.{RecordData}
use Rattle.edit_journal.specs.Ring.{places_of}
use Rattle.generations.specs.Disks.{LiveRoot}
use Rattle.generations.specs.Sectors.{IsRootOf, version_from}
use Rattle.generations.specs.declared.root.Root.{Root}
use Rattle.disk_copy.specs.Copies.{IsNamed, IsCopied, IsJournalOf}
use Rattle.disk_copy.specs.Faults.{IsOutside}
use Rattle.disk_copy.specs.declared.fault.CopyFault.{CopyFault}

-- ---- reads

-- Time only goes on. If each read so far gave a sector as of its time now, it had before.
pub record GoesOn {S : Type 0} (shared : S → Type 0) (now : S → ℕ) (old new : S) : Type 0 where
  pub later : now old ≤ now new
  pub was_shared : shared new → shared old

-- the bytes are those that the sector had at a moment from one on up to another one
abbrev pub IsOf : (images : ℕ → Image) (from to at : ℕ) → List ℕ → Type 0
IsOf images from to at bytes = (moment : ℕ) × (from ≤ moment) × (moment ≤ to) × (bytes ≡ images moment at)

-- ---- images

-- An image has what another one has that a root names, with the same records, or more after them.
pub record OnlyGrows (n : ℕ) (root : Root) (old_records new_records : List RecordData) (old new : Image) : Type 0 where
  pub more : List RecordData
  pub records_are : new_records ≡ old_records ++ more
  pub stays : (at : ℕ) → IsNamed n root (places_of old_records) at → new at ≡ old at

-- the sector of a root is as it was, or has a later root
abbrev pub IsNewer : (n parity : ℕ) → Root → (old new : List ℕ) → Type 0
IsNewer n parity root old new = (new ≡ old) ⊎ ((later : Root) × IsRootOf n parity new later × (root.generation < later.generation))

-- The disk is served, and not upgraded: each image has a live root and a journal, a root is written over by a later one alone, and as long as the
-- live root is the same images only grow.
pub record IsServed (count n version : ℕ) (images : ℕ → Image) : Type 0 where
  pub root : ℕ → Root
  pub records : ℕ → List RecordData
  pub lives : (moment : ℕ) → LiveRoot count (images moment) n (root moment)
  pub version_is : (moment : ℕ) → version ≡ version_from (images moment 0)
  pub journal : (moment : ℕ) → IsJournalOf n version (root moment) (records moment) (images moment)
  pub newer : (moment later parity : ℕ) (r : Root) → moment ≤ later → IsRootOf n parity (images moment (1 + parity)) r
      → IsNewer n parity r (images moment (1 + parity)) (images later (1 + parity))
  pub grows : (moment later : ℕ) → moment ≤ later → root later ≡ root moment
      → OnlyGrows n (root moment) (records moment) (records later) (images moment) (images later)

-- the same for moments at which the root is this one
pub record IsStretch (n version : ℕ) (root : Root) (records : ℕ → List RecordData) (images : ℕ → Image) (from to : ℕ) : Type 0 where
  pub journal : (moment : ℕ) → from ≤ moment → moment ≤ to → IsJournalOf n version root (records moment) (images moment)
  pub grows : (moment later : ℕ) → from ≤ moment → moment ≤ later → later ≤ to
      → OnlyGrows n root (records moment) (records later) (images moment) (images later)

-- ---- copies

-- the copy is that of one of these images
abbrev pub IsOfOneMoment : (count : ℕ) (images : ℕ → Image) (from to last : ℕ) → History → Type 0
IsOfOneMoment count images from to last history =
    (moment : ℕ) × (from ≤ moment) × (moment ≤ to) × IsCopied count (images moment) last history

-- The first three sectors were read, each at a moment of its own, and this is their live root.
pub record HasLooked (count n version : ℕ) (root : Root) (images : ℕ → Image) (from to : ℕ) : Type 0 where
  pub first : Image
  pub format : IsOf images from to 0 (first 0)
  pub even : IsOf images from to 1 (first 1)
  pub odd : IsOf images from to 2 (first 2)
  pub lives : LiveRoot count first n root
  pub version_is : version ≡ version_from (first 0)

-- ---- records, one after the other

-- some first records take this many places, and the last one has this number
pub record HasWalked (root : Root) (records : List RecordData) (used last : ℕ) : Type 0 where
  pub count : ℕ
  pub within : count ≤ length records
  pub used_is : used ≡ places_of (take count records)
  pub last_is : last ≡ root.edits + count

-- These were all records, or the next one takes this many places; the only errors are those of calls.
abbrev pub FindsNext : Root → List RecordData → (used last : ℕ) → Result (Option ℕ) CopyFault → Type 0
FindsNext root records used last result = MatchResult result (λ next. MatchOption next
    ((used ≡ places_of records) × (last ≡ root.edits + length records))
    (λ parts. HasWalked root records (used + parts) (last + 1)))
    IsOutside
