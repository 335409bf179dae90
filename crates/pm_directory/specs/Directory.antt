-- Directories: entries as four columns of numbers.
use Rattle.std.specs.Prelude.{◌≡◌, ℕ, zero, suc, ◌+◌, ◌-◌, ◌^◌, ◌<◌, ◌≤◌, ◌==◌, max, List, [], ◌∷◌, ◌++◌, length, map, Option, Some, None, ⊤, if◌then◌else◌}
use Rattle.std.specs.List.{AllByRecursion}
use Rattle.pb_wire.specs.Varint.{IsVarint, varint}
use Rattle.hilbert_id.specs.declared.number.TheConstants.{TILE_IDS}
use Rattle.pm_directory.specs.declared.entry.DirectoryEntry.{DirectoryEntry}

-- the bytes are the varints of these numbers, one after the other, and nothing else
abbrev pub AreVarints : List ℕ → List ℕ → Type 0
AreVarints bytes [] = bytes ≡ []
AreVarints bytes (n ∷ ns) = (front : List ℕ) × (rest : List ℕ) × (bytes ≡ front ++ rest) × IsVarint front n × AreVarints rest ns

-- the first id after those of an entry: after its run, or after a leaf's own id
abbrev pub ids_behind : DirectoryEntry → ℕ
ids_behind e = e.id + max 1 e.run

-- no id is below this one, and each entry's ids are after those of the previous entry
abbrev pub AscendFrom : ℕ → List DirectoryEntry → Type 0
AscendFrom from [] = ⊤
AscendFrom from (e ∷ es) = (from ≤ e.id) × AscendFrom (ids_behind e) es

-- the entries ascend, and no runs overlap
abbrev pub IsAscending : List DirectoryEntry → Type 0
IsAscending entries = AscendFrom 0 entries

-- what an entry may say
pub record IsEntry (e : DirectoryEntry) : Type 0 where
  pub some : 0 < e.length
  pub length_fits : e.length < 2 ^ 32
  pub run_fits : e.run < 2 ^ 32
  pub ids_fit : e.id + e.run ≤ TILE_IDS
  pub offset_fits : e.offset < 2 ^ 64

-- the bytes that it names end before offset 2 ^ 64
abbrev pub HasEnd : DirectoryEntry → Type 0
HasEnd e = (0 < e.length) × (e.offset + e.length < 2 ^ 64)

-- the difference of each id from the previous one, of the first from 0
abbrev pub id_deltas : ℕ → List DirectoryEntry → List ℕ
id_deltas from [] = []
id_deltas from (e ∷ es) = (e.id - from) ∷ id_deltas e.id es

-- the offset that a number means: 0 the end of the previous entry's bytes, if there is one; any other number the number less one
abbrev pub offset_at : Option ℕ → ℕ → Option ℕ
offset_at end zero = end
offset_at end (suc n) = Some n

-- the numbers say the offsets of the entries
abbrev pub AreOffsets : Option ℕ → List ℕ → List DirectoryEntry → Type 0
AreOffsets end [] [] = ⊤
AreOffsets end [] (e ∷ es) = ⊥
AreOffsets end (n ∷ ns) [] = ⊥
AreOffsets end (n ∷ ns) (e ∷ es) = (offset_at end n ≡ Some e.offset) × AreOffsets (Some (e.offset + e.length)) ns es

abbrev pub runs_of : List DirectoryEntry → List ℕ
runs_of entries = map (λ e. e.run) entries

abbrev pub lengths_of : List DirectoryEntry → List ℕ
lengths_of entries = map (λ e. e.length) entries

-- The bytes are a directory of these entries. A varint may be longer than necessary, and an offset may be given where 0 would do.
pub record IsDirectory (bytes : List ℕ) (entries : List DirectoryEntry) : Type 0 where
  pub offsets : List ℕ
  pub spelled : AreVarints bytes (length entries ∷ (id_deltas 0 entries ++ (runs_of entries ++ (lengths_of entries ++ offsets))))
  pub offsets_are : AreOffsets None offsets entries
  pub ascending : IsAscending entries
  pub each : AllByRecursion IsEntry entries

-- ---- the encoding that is written

-- the shortest varint of each
abbrev pub varints : List ℕ → List ℕ
varints [] = []
varints (n ∷ ns) = varint n ++ varints ns

-- the number of an offset, after a previous entry whose bytes end here
abbrev pub offset_number : Option ℕ → ℕ → ℕ
offset_number None offset = suc offset
offset_number (Some end) offset = if end == offset then 0 else suc offset

-- 0 wherever it may be
abbrev pub offset_numbers : Option ℕ → List DirectoryEntry → List ℕ
offset_numbers end [] = []
offset_numbers end (e ∷ es) = offset_number end e.offset ∷ offset_numbers (Some (e.offset + e.length)) es

-- the directory that is written for these entries
unfoldable pub directory_bytes : List DirectoryEntry → List ℕ
directory_bytes entries = varints (length entries ∷ (id_deltas 0 entries ++ (runs_of entries ++ (lengths_of entries ++ offset_numbers None entries))))
