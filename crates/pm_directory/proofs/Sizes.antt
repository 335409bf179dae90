-- How long directories are.
use Rattle.std.proofs.Common.{◌≡◌, ℕ, zero, suc, ◌+◌, ◌*◌, ◌/◌, ◌^◌, ◌<◌, ◌≤◌, Bool, true, false, cond, eqb, ltb, List, [], ◌∷◌, ◌++◌, length, Option, Some}
use Rattle.std.proofs.Common.{None, inl, inr, refl, ap, arith}
use Rattle.std.specs.List.{AllByRecursion}
use Rattle.std.proofs.lemmas.Bool.{cases_lt, lt-ltb, le-ltb}
use Rattle.std.proofs.lemmas.List.{length-append, length-map}
use Rattle.std.proofs.lemmas.Nat.{div_below}
use Rattle.std.proofs.Math.Nat.{pow-succ'}
use Rattle.pb_wire.specs.Varint.{shortest_in, varint}
use Rattle.pm_directory.specs.declared.entry.DirectoryEntry.{DirectoryEntry}
use Rattle.pm_directory.specs.Directory.{IsEntry, id_deltas, runs_of, lengths_of, offset_number, offset_numbers, varints, directory_bytes}

short : (k more n : ℕ) → n < 128 ^ suc k → length (shortest_in more n) ≤ suc k
unfolding shortest_in
short k zero n lt = omega arith
short zero (suc more) n lt = let low : ltb n 128 ≡ true = lt-ltb n 128 (omega arith) in rw low (omega arith)
short (suc k) (suc more) n lt =
    let next = pow-succ' 128 (suc k) in
    let behind : length (shortest_in more (n / 128)) ≤ suc k = short k more (n / 128) (div_below n 128 (128 ^ suc k) (omega arith) (omega arith)) in
    elim (cases_lt n 128) [
      | inl low ↦ rw (lt-ltb n 128 low) (omega arith)
      | inr high ↦ rw (le-ltb n 128 high) (omega arith)
    ]

varint_short : (k n : ℕ) → n < 128 ^ suc k → length (varint n) ≤ suc k
unfolding varint
varint_short k n lt = short k 9 n lt

some_byte : (n : ℕ) → 0 < length (varint n)
unfolding varint shortest_in
some_byte n =
    elim (cases_lt n 128) [
      | inl low ↦ rw (lt-ltb n 128 low) (omega arith)
      | inr high ↦ rw (le-ltb n 128 high) (omega arith)
    ]

abbrev Below : ℕ → ℕ → Type 0
Below limit n = n < limit

varints-length : (xs ys : List ℕ) → length (varints (xs ++ ys)) ≡ length (varints xs) + length (varints ys)
varints-length [] ys = omega arith
varints-length (x ∷ xs) ys = omega (arith, length-append (varint x) (varints (xs ++ ys)), length-append (varint x) (varints xs), varints-length xs ys)

varints_short : (k : ℕ) (ns : List ℕ) → AllByRecursion (Below (128 ^ suc k)) ns → length (varints ns) ≤ suc k * length ns
varints_short k [] h = omega arith
varints_short k (n ∷ ns) h =
    let more : suc k * suc (length ns) ≡ suc k + suc k * length ns = omega arith in
    omega (arith, length-append (varint n) (varints ns), varint_short k n h.0, varints_short k ns h.1, more)

-- ---- columns

deltas_low : (from : ℕ) (es : List DirectoryEntry) → AllByRecursion IsEntry es → AllByRecursion (Below (128 ^ 9)) (id_deltas from es)
deltas_low from [] h = tt
deltas_low from (e ∷ es) h = let ids = h.0.ids_fit in (omega arith, deltas_low e.id es h.1)

runs_low : (es : List DirectoryEntry) → AllByRecursion IsEntry es → AllByRecursion (Below (128 ^ 5)) (runs_of es)
runs_low [] h = tt
runs_low (e ∷ es) h = let run = h.0.run_fits in (omega arith, runs_low es h.1)

lengths_low : (es : List DirectoryEntry) → AllByRecursion IsEntry es → AllByRecursion (Below (128 ^ 5)) (lengths_of es)
lengths_low [] h = tt
lengths_low (e ∷ es) h = let len = h.0.length_fits in (omega arith, lengths_low es h.1)

number_low : (end : Option ℕ) (offset : ℕ) → offset < 2 ^ 64 → offset_number end offset < 128 ^ 10
number_low None offset h = omega arith
number_low (Some end) offset h = chosen (eqb end offset)
  where
    chosen : (b : Bool) → cond b 0 (suc offset) < 128 ^ 10
    chosen true = omega arith
    chosen false = omega arith

offsets_low : (end : Option ℕ) (es : List DirectoryEntry) → AllByRecursion IsEntry es → AllByRecursion (Below (128 ^ 10)) (offset_numbers end es)
offsets_low end [] h = tt
offsets_low end (e ∷ es) h = (number_low end e.offset h.0.offset_fits, offsets_low (Some (e.offset + e.length)) es h.1)

length-deltas : (from : ℕ) (es : List DirectoryEntry) → length (id_deltas from es) ≡ length es
length-deltas from [] = refl
length-deltas from (e ∷ es) = ap (λ (n : ℕ). suc n) (length-deltas e.id es)

length-offsets : (end : Option ℕ) (es : List DirectoryEntry) → length (offset_numbers end es) ≡ length es
length-offsets end [] = refl
length-offsets end (e ∷ es) = ap (λ (n : ℕ). suc n) (length-offsets (Some (e.offset + e.length)) es)

-- ---- directories

pub directory_some : (es : List DirectoryEntry) → 0 < length (directory_bytes es)
unfolding directory_bytes
directory_some es = omega (
  arith,
  length-append (varint (length es)) (varints (id_deltas 0 es ++ (runs_of es ++ (lengths_of es ++ offset_numbers None es)))),
  some_byte (length es),
)

pub directory_short : (es : List DirectoryEntry) → length es < 2 ^ 14 → AllByRecursion IsEntry es → length (directory_bytes es) ≤ 2 + 29 * length es
unfolding directory_bytes
directory_short es few h =
    let ds = id_deltas 0 es in
    let rs = runs_of es in
    let ls = lengths_of es in
    let os = offset_numbers None es in
    omega (
      arith,
      length-append (varint (length es)) (varints (ds ++ (rs ++ (ls ++ os)))),
      varint_short 1 (length es) (omega arith),
      varints-length ds (rs ++ (ls ++ os)),
      varints-length rs (ls ++ os),
      varints-length ls os,
      varints_short 8 ds (deltas_low 0 es h),
      varints_short 4 rs (runs_low es h),
      varints_short 4 ls (lengths_low es h),
      varints_short 9 os (offsets_low None es h),
      length-deltas 0 es,
      length-map es (λ e. e.run),
      length-map es (λ e. e.length),
      length-offsets None es,
    )
