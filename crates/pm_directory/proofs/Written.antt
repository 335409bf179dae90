-- What is written is the directory.
use Rattle.std.proofs.Common.{◌≡◌, ℕ, suc, ◌+◌, ◌^◌, ◌<◌, Bool, true, false, cond, eqb, List, [], ◌∷◌, ◌++◌, length, Option, Some, None, refl, sym, ap, ◌∙◌}
use Rattle.std.proofs.Common.{append_assoc, arith}
use Rattle.std.specs.List.{AllByRecursion}
use Rattle.std.proofs.lemmas.Bool.{eqb-true}
use Rattle.pb_wire.specs.Varint.{varint}
use Rattle.pb_wire.proofs.Varints.{varint_spells}
use Rattle.pm_directory.specs.declared.entry.DirectoryEntry.{DirectoryEntry}
use Rattle.pm_directory.specs.Directory.{AreVarints, IsAscending, IsEntry, HasEnd, id_deltas, offset_at, AreOffsets, runs_of, lengths_of, IsDirectory, varints}
use Rattle.pm_directory.specs.Directory.{offset_number, offset_numbers, directory_bytes}

abbrev Fits : ℕ → Type 0
Fits n = n < 2 ^ 64

varints-append : (xs ys : List ℕ) → varints (xs ++ ys) ≡ varints xs ++ varints ys
varints-append [] ys = refl
varints-append (x ∷ xs) ys = ap (λ (r : List ℕ). varint x ++ r) (varints-append xs ys) ∙ sym (append_assoc (varint x) (varints xs) (varints ys))

-- the parts one after the other
pub parts_are : (es : List DirectoryEntry) → varint (length es) ++ varints (id_deltas 0 es) ++ varints (runs_of es) ++ varints (lengths_of es)
    ++ varints (offset_numbers None es) ≡ directory_bytes es
unfolding directory_bytes
parts_are es =
    let ds = id_deltas 0 es in
    let rs = runs_of es in
    let ls = lengths_of es in
    let os = offset_numbers None es in
    simp append_assoc (ap (λ (r : List ℕ). varint (length es) ++ r)
    (sym (varints-append ds (rs ++ (ls ++ os)) ∙ ap (λ (r : List ℕ). varints ds ++ r)
    (varints-append rs (ls ++ os) ∙ ap (λ (r : List ℕ). varints rs ++ r) (varints-append ls os)))))

-- ---- each number fits

fit_append : (xs ys : List ℕ) → AllByRecursion Fits xs → AllByRecursion Fits ys → AllByRecursion Fits (xs ++ ys)
fit_append [] ys h g = g
fit_append (x ∷ xs) ys h g = (h.0, fit_append xs ys h.1 g)

deltas_fit : (from : ℕ) (es : List DirectoryEntry) → AllByRecursion IsEntry es → AllByRecursion Fits (id_deltas from es)
deltas_fit from [] h = tt
deltas_fit from (e ∷ es) h = let ids = h.0.ids_fit in (omega arith, deltas_fit e.id es h.1)

runs_fit : (es : List DirectoryEntry) → AllByRecursion IsEntry es → AllByRecursion Fits (runs_of es)
runs_fit [] h = tt
runs_fit (e ∷ es) h = let run = h.0.run_fits in (omega arith, runs_fit es h.1)

lengths_fit : (es : List DirectoryEntry) → AllByRecursion IsEntry es → AllByRecursion Fits (lengths_of es)
lengths_fit [] h = tt
lengths_fit (e ∷ es) h = let len = h.0.length_fits in (omega arith, lengths_fit es h.1)

number_fits : (end : Option ℕ) (offset : ℕ) → suc offset < 2 ^ 64 → offset_number end offset < 2 ^ 64
number_fits None offset h = h
number_fits (Some end) offset h = chosen (eqb end offset)
  where
    chosen : (b : Bool) → cond b 0 (suc offset) < 2 ^ 64
    chosen true = omega arith
    chosen false = h

offsets_fit : (end : Option ℕ) (es : List DirectoryEntry) → AllByRecursion HasEnd es → AllByRecursion Fits (offset_numbers end es)
offsets_fit end [] h = tt
offsets_fit end (e ∷ es) h = let some = h.0.0 in let last = h.0.1 in (number_fits end e.offset (omega arith), offsets_fit (Some (e.offset + e.length)) es h.1)

-- ---- the directory

varints_are : (ns : List ℕ) → AllByRecursion Fits ns → AreVarints (varints ns) ns
varints_are [] h = refl
varints_are (n ∷ ns) h = (varint n, varints ns, refl, varint_spells n h.0, varints_are ns h.1)

offset_is : (end : Option ℕ) (offset : ℕ) → offset_at end (offset_number end offset) ≡ Some offset
offset_is None offset = refl
offset_is (Some end) offset = chosen (eqb end offset) refl
  where
    chosen : (b : Bool) → eqb end offset ≡ b → offset_at (Some end) (cond b 0 (suc offset)) ≡ Some offset
    chosen true is = ap (λ (n : ℕ). Some n) (eqb-true end offset is)
    chosen false is = refl

offsets_are : (end : Option ℕ) (es : List DirectoryEntry) → AreOffsets end (offset_numbers end es) es
offsets_are end [] = tt
offsets_are end (e ∷ es) = (offset_is end e.offset, offsets_are (Some (e.offset + e.length)) es)

pub is_directory : (es : List DirectoryEntry) → length es < 2 ^ 64 → IsAscending es → AllByRecursion IsEntry es → AllByRecursion HasEnd es
    → IsDirectory (directory_bytes es) es
unfolding directory_bytes
is_directory es count ascending each ends =
    let ds = id_deltas 0 es in
    let rs = runs_of es in
    let ls = lengths_of es in
    let os = offset_numbers None es in
    record {
      offsets = os;
      spelled = varints_are (length es ∷ (ds ++ (rs ++ (ls ++ os)))) (
        count,
        fit_append ds (rs ++ (ls ++ os)) (deltas_fit 0 es each)
            (fit_append rs (ls ++ os) (runs_fit es each) (fit_append ls os (lengths_fit es each) (offsets_fit None es ends))),
      );
      offsets_are = offsets_are None es;
      ascending = ascending;
      each = each;
    }
