-- The faults that bytes have, each at its place.
use Rattle.std.specs.Prelude.{◌≡◌, ℕ, ◌+◌, ◌*◌, ◌^◌, ◌<◌, ◌≤◌, ◌⊎◌, List, ◌∷◌, ◌++◌, length, Option, Some, None}
use Rattle.pb_wire.specs.Varint.{IsVarint, IsCut, IsOverlong}
use Rattle.hilbert_id.specs.declared.number.TheConstants.{TILE_IDS}
use Rattle.pm_directory.specs.declared.entry.DirectoryEntry.{DirectoryEntry}
use Rattle.pm_directory.specs.declared.fault.DirectoryFault.{DirectoryFault}
use Rattle.pm_directory.specs.declared.fault.DirectoryFault.TheVariants as faults
use Rattle.pm_directory.specs.Directory.{AreVarints, ids_behind, offset_at, IsEntry}

-- where a number is expected, the bytes end inside it, or it is too long
pub data NumberHas (bytes : List ℕ) (d : DirectoryFault) : Type 0 where
  cut : d ≡ faults.Cut → IsCut bytes → NumberHas bytes d
  overlong : d ≡ faults.Varint → IsOverlong bytes → NumberHas bytes d

-- after fewer numbers than there must be, one has a fault
pub record NumbersHave (count : ℕ) (bytes : List ℕ) (d : DirectoryFault) : Type 0 where
  pub numbers : List ℕ
  pub front : List ℕ
  pub rest : List ℕ
  pub fewer : length numbers < count
  pub parts : bytes ≡ front ++ rest
  pub spelled : AreVarints front numbers
  pub fault : NumberHas rest d

-- of the previous entry, if there is one: its id, the first id after its ids, and the end of its bytes
abbrev pub id_from : Option DirectoryEntry → ℕ
id_from None = 0
id_from (Some b) = b.id

abbrev pub ids_from : Option DirectoryEntry → ℕ
ids_from None = 0
ids_from (Some b) = ids_behind b

abbrev pub end_from : Option DirectoryEntry → Option ℕ
end_from None = None
end_from (Some b) = Some (b.offset + b.length)

-- a number of each column is this entry, after the previous one
pub record IsNext (before : Option DirectoryEntry) (delta run len offset : ℕ) (e : DirectoryEntry) : Type 0 where
  pub id_is : e.id ≡ id_from before + delta
  pub run_is : e.run ≡ run
  pub length_is : e.length ≡ len
  pub offset_is : offset_at (end_from before) offset ≡ Some e.offset
  pub behind : ids_from before ≤ e.id
  pub proper : IsEntry e

-- a number of each column is no entry after the previous one
pub data EntryHas (before : Option DirectoryEntry) (delta run len offset : ℕ) (d : DirectoryFault) : Type 0 where
  not_behind : d ≡ faults.Order → id_from before + delta < ids_from before → EntryHas before delta run len offset d
  id_large : d ≡ faults.Range → 2 ^ 64 ≤ id_from before + delta → EntryHas before delta run len offset d
  run_large : d ≡ faults.Range → 2 ^ 32 ≤ run → EntryHas before delta run len offset d
  past_ids : d ≡ faults.Range → TILE_IDS < id_from before + delta + run → EntryHas before delta run len offset d
  no_length : d ≡ faults.Length → len ≡ 0 → EntryHas before delta run len offset d
  length_large : d ≡ faults.Range → 2 ^ 32 ≤ len → EntryHas before delta run len offset d
  no_offset : d ≡ faults.Offset → before ≡ None → offset ≡ 0 → EntryHas before delta run len offset d
  offset_large : d ≡ faults.Range → (end : ℕ) → end_from before ≡ Some end → offset ≡ 0 → 2 ^ 64 ≤ end → EntryHas before delta run len offset d

-- after entries that the columns give, one has a fault
abbrev pub EntriesHave : Option DirectoryEntry → List ℕ → List ℕ → List ℕ → List ℕ → DirectoryFault → Type 0
EntriesHave before (delta ∷ ds) (run ∷ rs) (len ∷ ls) (offset ∷ os) d = EntryHas before delta run len offset d
    ⊎ ((e : DirectoryEntry) × IsNext before delta run len offset e × EntriesHave (Some e) ds rs ls os d)
EntriesHave before _ _ _ _ d = ⊥

-- a fault of bytes that are to be a directory
pub data DirectoryHas (bytes : List ℕ) (d : DirectoryFault) : Type 0 where
  at_count : NumberHas bytes d → DirectoryHas bytes d
  -- fewer bytes than numbers
  few : d ≡ faults.Cut → (n : ℕ) → (front : List ℕ) → (rest : List ℕ) → bytes ≡ front ++ rest → IsVarint front n → length rest < 4 * n → DirectoryHas bytes d
  at_number : (n : ℕ) → (front : List ℕ) → (rest : List ℕ) → bytes ≡ front ++ rest → IsVarint front n → NumbersHave (4 * n) rest d → DirectoryHas bytes d
  bytes_behind : d ≡ faults.Rest → (numbers : List ℕ) → (n : ℕ) → (front : List ℕ) → (rest : List ℕ) → bytes ≡ front ++ rest → AreVarints front (n ∷ numbers)
      → length numbers ≡ 4 * n → 0 < length rest → DirectoryHas bytes d
  at_entry : (ds : List ℕ) → (rs : List ℕ) → (ls : List ℕ) → (os : List ℕ) → length rs ≡ length ds → length ls ≡ length ds → length os ≡ length ds
      → AreVarints bytes (length ds ∷ (ds ++ (rs ++ (ls ++ os)))) → EntriesHave None ds rs ls os d → DirectoryHas bytes d

-- the bytes begin with a count of entries, and after it there is a byte or more for each of their four numbers
abbrev pub HasRoom : List ℕ → Type 0
HasRoom bytes = (n : ℕ) × (front : List ℕ) × (rest : List ℕ) × (bytes ≡ front ++ rest) × IsVarint front n × (0 < n) × (4 * n ≤ length rest)
