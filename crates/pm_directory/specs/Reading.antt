-- Reading a directory from left to right, with the first fault that is met.
use Rattle.std.specs.Prelude.{ℕ, ◌+◌, ◌-◌, ◌*◌, ◌^◌, ◌==◌, max, List, [], ◌∷◌, ◌++◌, length, take, drop, Option, Some, None, Result, Ok, Err, nat_lt, nat_le}
use Rattle.std.specs.Prelude.{if◌then◌else◌}
use Rattle.pb_wire.specs.declared.fault.FaultKind.{FaultKind}
use Rattle.pb_wire.specs.declared.fault.FaultKind.TheVariants as kinds
use Rattle.pb_wire.specs.Varint.{varint_at}
use Rattle.reader.specs.Reading.{Read, ◌>>=◌, repeated}
use Rattle.hilbert_id.specs.declared.number.TheConstants.{TILE_IDS}
use Rattle.pm_directory.specs.declared.entry.DirectoryEntry.{DirectoryEntry}
use Rattle.pm_directory.specs.declared.fault.DirectoryFault.{DirectoryFault}
use Rattle.pm_directory.specs.declared.fault.DirectoryFault.TheVariants.{Cut, Varint, Rest, Order, Length, Offset, Range}

-- ---- numbers

unfoldable pub number_of : List ℕ → Result (ℕ × ℕ) FaultKind → Read DirectoryFault (ℕ × List ℕ)
number_of bytes (Ok n) = Ok (n.0, drop n.1 bytes)
number_of bytes (Err kinds.Varint) = Err Varint
number_of bytes (Err kinds.Cut) = Err Cut
number_of bytes (Err kinds.Number) = Err Cut
number_of bytes (Err kinds.WireType) = Err Cut

-- the first number, and the bytes after it
unfoldable pub number_at : List ℕ → Read DirectoryFault (ℕ × List ℕ)
number_at bytes = number_of bytes (varint_at bytes)

-- one more number after those that were read, and the bytes after it
unfoldable pub one_more : List ℕ × List ℕ → Read DirectoryFault (List ℕ × List ℕ)
one_more s = number_at s.1 >>= λ x. Ok (s.0 ++ x.0 ∷ [], x.1)

-- the first `count` numbers, and the bytes after them
abbrev pub numbers_at : ℕ → List ℕ → Read DirectoryFault (List ℕ × List ℕ)
numbers_at count bytes = repeated one_more count ([], bytes)

-- ---- one entry, after the previous one

abbrev pub id_at : Option DirectoryEntry → ℕ → Read DirectoryFault ℕ
id_at None delta = Ok delta
id_at (Some b) delta = if nat_lt delta (max 1 b.run) then Err Order else (if nat_lt (b.id + delta) (2 ^ 64) then Ok (b.id + delta) else Err Range)

abbrev pub run_at : ℕ → ℕ → Read DirectoryFault ℕ
run_at id run = if nat_lt run (2 ^ 32) then (if nat_le (id + run) TILE_IDS then Ok run else Err Range) else Err Range

abbrev pub length_at : ℕ → Read DirectoryFault ℕ
length_at len = if len == 0 then Err Length else (if nat_lt len (2 ^ 32) then Ok len else Err Range)

-- the end of the previous entry's bytes
abbrev pub end_before : Option DirectoryEntry → Read DirectoryFault ℕ
end_before None = Err Offset
end_before (Some b) = if nat_lt (b.offset + b.length) (2 ^ 64) then Ok (b.offset + b.length) else Err Range

-- the offset that a number says
abbrev pub offset_of : Option DirectoryEntry → ℕ → Read DirectoryFault ℕ
offset_of before n = if nat_lt 0 n then Ok (n - 1) else end_before before

unfoldable pub entry_at : Option DirectoryEntry → ℕ → ℕ → ℕ → ℕ → Read DirectoryFault DirectoryEntry
entry_at before delta run len offset =
    id_at before delta >>= λ id. run_at id run >>= λ r. length_at len >>= λ l. offset_of before offset
    >>= λ o. Ok record { id = id; run = r; length = l; offset = o }

-- ---- all entries

-- the entries of the columns, after those that were read
unfoldable pub entries_at : Option DirectoryEntry → List DirectoryEntry → List ℕ → List ℕ → List ℕ → List ℕ → Read DirectoryFault (List DirectoryEntry)
entries_at before done (d ∷ ds) (r ∷ rs) (l ∷ ls) (o ∷ os) = entry_at before d r l o >>= λ e. entries_at (Some e) (done ++ e ∷ []) ds rs ls os
entries_at before done _ _ _ _ = Ok done

-- how many entries there are, and the numbers of the four columns
unfoldable pub columns_at : List ℕ → Read DirectoryFault (ℕ × List ℕ)
columns_at bytes =
    number_at bytes >>= λ n. if nat_lt (length n.1) (4 * n.0) then Err Cut
    else (numbers_at (4 * n.0) n.1 >>= λ x. if length x.1 == 0 then Ok (n.0, x.0) else Err Rest)

-- the entries of `n` numbers in each column
abbrev pub entries_of : ℕ → List ℕ → Read DirectoryFault (List DirectoryEntry)
entries_of n xs = entries_at None [] (take n xs) (take n (drop n xs)) (take n (drop n (drop n xs))) (drop n (drop n (drop n xs)))

unfoldable pub directory_at : List ℕ → Read DirectoryFault (List DirectoryEntry)
directory_at bytes = columns_at bytes >>= λ c. entries_of c.0 c.1
