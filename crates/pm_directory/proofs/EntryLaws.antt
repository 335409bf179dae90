-- Entries that are read are what the columns say, and what they say is read.
use Rattle.std.proofs.Common.{◌≡◌, ℕ, zero, suc, ◌+◌, ◌-◌, ◌^◌, ◌<◌, ◌≤◌, cond, eqb, ltb, leb, max, List, [], ◌∷◌, ◌++◌, length, Option, Some, None, Ok, Err}
use Rattle.std.proofs.Common.{inl, inr, refl, sym, ap, subst, ◌∙◌, append_assoc, append-nil, arith}
use Rattle.std.specs.List.{AllByRecursion}
use Rattle.std.proofs.lemmas.Bool.{ltb-true, ltb-false, lt-ltb, le-ltb, eqb-true, eqb-false, ne_eqb, leb-true, leb-false, le-leb}
use Rattle.hilbert_id.specs.declared.number.TheConstants.{TILE_IDS}
use Rattle.pm_directory.specs.declared.entry.DirectoryEntry.{DirectoryEntry}
use Rattle.pm_directory.specs.declared.fault.DirectoryFault.{DirectoryFault}
use Rattle.pm_directory.specs.declared.fault.DirectoryFault.TheVariants as faults
use Rattle.pm_directory.specs.Directory.{AscendFrom, IsEntry, id_deltas, offset_at, AreOffsets, runs_of, lengths_of}
use Rattle.pm_directory.specs.Faulty.{id_from, ids_from, end_from, IsNext, EntryHas, not_behind, id_large, run_large, past_ids, no_length, length_large}
use Rattle.pm_directory.specs.Faulty.{no_offset, offset_large, EntriesHave}
use Rattle.reader.specs.Reading.{Read, ◌>>=◌}
use Rattle.pm_directory.specs.Reading.{id_at, run_at, length_at, offset_of, entry_at, entries_at}
use Rattle.reader.proofs.Steps.{done, same_value, same_fault, not_both, then_ok, then_err, guard_ok, guard_err, pass_ok, pass_err}

-- ---- an id

id_ok : (before : Option DirectoryEntry) (delta id : ℕ) → id_at before delta ≡ Ok id → (id ≡ id_from before + delta) × (ids_from before ≤ id)
id_ok None delta id e = let k = same_value delta id e in (omega arith, omega arith)
id_ok (Some b) delta id e =
    let g = guard_ok (ltb delta (max 1 b.run)) faults.Order (cond (ltb (b.id + delta) (2 ^ 64)) (Ok (b.id + delta)) (Err faults.Range)) id e in
    let p = pass_ok (ltb (b.id + delta) (2 ^ 64)) faults.Range (Ok (b.id + delta)) id g.1 in
    let k = same_value (b.id + delta) id p.1 in
    (omega arith, omega (arith, ltb-false delta (max 1 b.run) g.0))

id_only : (before : Option DirectoryEntry) (delta id : ℕ) → id ≡ id_from before + delta → ids_from before ≤ id → id < 2 ^ 64 → id_at before delta ≡ Ok id
id_only None delta id is le fits = let k : delta ≡ id = omega arith in ap (λ (n : ℕ). done n) k
id_only (Some b) delta id is le fits =
    rw (le-ltb delta (max 1 b.run) (omega arith), lt-ltb (b.id + delta) (2 ^ 64) (omega arith)) (ap (λ (n : ℕ). done n) (sym is))

id_err : (before : Option DirectoryEntry) (delta run len offset : ℕ) (d : DirectoryFault) → id_at before delta ≡ Err d → EntryHas before delta run len offset d
id_err None delta run len offset d e = absurd (not_both delta d e)
id_err (Some b) delta run len offset d e =
    elim (guard_err (ltb delta (max 1 b.run)) faults.Order d (cond (ltb (b.id + delta) (2 ^ 64)) (Ok (b.id + delta)) (Err faults.Range)) e) [
      | inl g ↦ not_behind g.1 (omega (arith, ltb-true delta (max 1 b.run) g.0))
      | inr g ↦
          elim (pass_err (ltb (b.id + delta) (2 ^ 64)) faults.Range d (Ok (b.id + delta)) g.1) [
            | inl p ↦ absurd (not_both (b.id + delta) d p.1)
            | inr p ↦ id_large p.1 (ltb-false (b.id + delta) (2 ^ 64) p.0)
          ]
    ]

-- ---- a run

run_ok : (id run r : ℕ) → run_at id run ≡ Ok r → (r ≡ run) × (run < 2 ^ 32) × (id + run ≤ TILE_IDS)
run_ok id run r e =
    let p = pass_ok (ltb run (2 ^ 32)) faults.Range (cond (leb (id + run) TILE_IDS) (Ok run) (Err faults.Range)) r e in
    let q = pass_ok (leb (id + run) TILE_IDS) faults.Range (Ok run) r p.1 in
    (sym (same_value run r q.1), ltb-true run (2 ^ 32) p.0, leb-true (id + run) TILE_IDS q.0)

run_only : (id run : ℕ) → run < 2 ^ 32 → id + run ≤ TILE_IDS → run_at id run ≡ Ok run
run_only id run small le = rw (lt-ltb run (2 ^ 32) small, le-leb (id + run) TILE_IDS le) refl

run_err : (before : Option DirectoryEntry) (delta id run len offset : ℕ) (d : DirectoryFault) → id ≡ id_from before + delta → run_at id run ≡ Err d
    → EntryHas before delta run len offset d
run_err before delta id run len offset d is e =
    elim (pass_err (ltb run (2 ^ 32)) faults.Range d (cond (leb (id + run) TILE_IDS) (Ok run) (Err faults.Range)) e) [
      | inl p ↦
          elim (pass_err (leb (id + run) TILE_IDS) faults.Range d (Ok run) p.1) [
            | inl q ↦ absurd (not_both run d q.1)
            | inr q ↦ past_ids q.1 (omega (arith, leb-false (id + run) TILE_IDS q.0))
          ]
      | inr p ↦ run_large p.1 (ltb-false run (2 ^ 32) p.0)
    ]

-- ---- a length

length_ok : (len l : ℕ) → length_at len ≡ Ok l → (l ≡ len) × (0 < len) × (len < 2 ^ 32)
length_ok len l e =
    let g = guard_ok (eqb len 0) faults.Length (cond (ltb len (2 ^ 32)) (Ok len) (Err faults.Range)) l e in
    let p = pass_ok (ltb len (2 ^ 32)) faults.Range (Ok len) l g.1 in
    (sym (same_value len l p.1), omega (arith, eqb-false len 0 g.0), ltb-true len (2 ^ 32) p.0)

length_only : (len : ℕ) → 0 < len → len < 2 ^ 32 → length_at len ≡ Ok len
length_only len some small = rw (ne_eqb len 0 (λ e. absurd (omega arith)), lt-ltb len (2 ^ 32) small) refl

length_err : (before : Option DirectoryEntry) (delta run len offset : ℕ) (d : DirectoryFault) → length_at len ≡ Err d → EntryHas before delta run len offset d
length_err before delta run len offset d e =
    elim (guard_err (eqb len 0) faults.Length d (cond (ltb len (2 ^ 32)) (Ok len) (Err faults.Range)) e) [
      | inl g ↦ no_length g.1 (eqb-true len 0 g.0)
      | inr g ↦
          elim (pass_err (ltb len (2 ^ 32)) faults.Range d (Ok len) g.1) [
            | inl p ↦ absurd (not_both len d p.1)
            | inr p ↦ length_large p.1 (ltb-false len (2 ^ 32) p.0)
          ]
    ]

-- ---- an offset

abbrev some_is : ℕ → Option ℕ
some_is n = Some n

same_some : (m n : ℕ) → some_is m ≡ some_is n → m ≡ n
same_some m n e = cc

not_none : (n : ℕ) → None ≡ some_is n → ⊥
not_none n e = cc

less_one : (n : ℕ) → suc n - 1 ≡ n
less_one n = omega arith

number_less : (before : Option DirectoryEntry) (n : ℕ) → offset_of before (suc n) ≡ Ok n
number_less before n = rw (lt-ltb 0 (suc n) (omega arith), less_one n) refl

offset_ok : (before : Option DirectoryEntry) (n o : ℕ) → n < 2 ^ 64 → offset_of before n ≡ Ok o → (offset_at (end_from before) n ≡ Some o) × (o < 2 ^ 64)
offset_ok None zero o small e = absurd (not_both o faults.Offset (sym e))
offset_ok (Some b) zero o small e =
    let p = pass_ok (ltb (b.offset + b.length) (2 ^ 64)) faults.Range (Ok (b.offset + b.length)) o e in
    let k = same_value (b.offset + b.length) o p.1 in
    (ap some_is k, omega (arith, ltb-true (b.offset + b.length) (2 ^ 64) p.0))
offset_ok None (suc n) o small e = let k = same_value n o (sym (number_less None n) ∙ e) in (ap some_is k, omega arith)
offset_ok (Some b) (suc n) o small e = let k = same_value n o (sym (number_less (Some b) n) ∙ e) in (ap some_is k, omega arith)

offset_only : (before : Option DirectoryEntry) (n o : ℕ) → offset_at (end_from before) n ≡ Some o → o < 2 ^ 64 → offset_of before n ≡ Ok o
offset_only None zero o is fits = absurd (not_none o is)
offset_only (Some b) zero o is fits =
    let k = same_some (b.offset + b.length) o is in
    rw (lt-ltb (b.offset + b.length) (2 ^ 64) (omega arith)) (ap (λ (n : ℕ). done n) k)
offset_only None (suc n) o is fits = number_less None n ∙ ap (λ (n : ℕ). done n) (same_some n o is)
offset_only (Some b) (suc n) o is fits = number_less (Some b) n ∙ ap (λ (n : ℕ). done n) (same_some n o is)

offset_err : (before : Option DirectoryEntry) (delta run len n : ℕ) (d : DirectoryFault) → offset_of before n ≡ Err d → EntryHas before delta run len n d
offset_err None delta run len zero d e = no_offset (sym (same_fault {A = ℕ} faults.Offset d e)) refl refl
offset_err (Some b) delta run len zero d e =
    elim (pass_err (ltb (b.offset + b.length) (2 ^ 64)) faults.Range d (Ok (b.offset + b.length)) e) [
      | inl p ↦ absurd (not_both (b.offset + b.length) d p.1)
      | inr p ↦ offset_large p.1 (b.offset + b.length) refl refl (ltb-false (b.offset + b.length) (2 ^ 64) p.0)
    ]
offset_err None delta run len (suc n) d e = absurd (not_both n d (sym (number_less None n) ∙ e))
offset_err (Some b) delta run len (suc n) d e = absurd (not_both n d (sym (number_less (Some b) n) ∙ e))

-- ---- an entry

abbrev made : ℕ → ℕ → ℕ → ℕ → DirectoryEntry
made id run len offset = record { id = id; run = run; length = len; offset = offset }

abbrev with_offset : Option DirectoryEntry → ℕ → ℕ → ℕ → ℕ → Read DirectoryFault DirectoryEntry
with_offset before offset id run len = offset_of before offset >>= λ o. Ok (made id run len o)

abbrev with_length : Option DirectoryEntry → ℕ → ℕ → ℕ → ℕ → Read DirectoryFault DirectoryEntry
with_length before len offset id run = length_at len >>= λ l. with_offset before offset id run l

abbrev with_run : Option DirectoryEntry → ℕ → ℕ → ℕ → ℕ → Read DirectoryFault DirectoryEntry
with_run before run len offset id = run_at id run >>= λ r. with_length before len offset id r

pub entry_ok : (before : Option DirectoryEntry) (delta run len offset : ℕ) (e : DirectoryEntry) → offset < 2 ^ 64 → entry_at before delta run len offset ≡ Ok e
    → IsNext before delta run len offset e
unfolding entry_at
entry_ok before delta run len offset e small eq =
    let i = then_ok (id_at before delta) (λ id. with_run before run len offset id) e eq in
    let r = then_ok (run_at i.0 run) (λ r. with_length before len offset i.0 r) e i.2 in
    let l = then_ok (length_at len) (λ l. with_offset before offset i.0 r.0 l) e r.2 in
    let o = then_ok (offset_of before offset) (λ o. Ok (made i.0 r.0 l.0 o)) e l.2 in
    let hi = id_ok before delta i.0 i.1 in
    let hr = run_ok i.0 run r.0 r.1 in
    let hl = length_ok len l.0 l.1 in
    let ho = offset_ok before offset o.0 small o.1 in
    subst (IsNext before delta run len offset) (same_value (made i.0 r.0 l.0 o.0) e o.2) record {
      id_is = hi.0;
      run_is = hr.0;
      length_is = hl.0;
      offset_is = ho.0;
      behind = hi.1;
      proper = record {
        some = omega (arith, hl.0, hl.1);
        length_fits = omega (arith, hl.0, hl.2);
        run_fits = omega (arith, hr.0, hr.1);
        ids_fit = omega (arith, hr.0, hr.2);
        offset_fits = ho.1;
      };
    }

pub entry_only : (before : Option DirectoryEntry) (delta run len offset : ℕ) (e : DirectoryEntry) → IsNext before delta run len offset e
    → entry_at before delta run len offset ≡ Ok e
unfolding entry_at
entry_only before delta run len offset e h =
    let ids = h.proper.ids_fit in
    let i = id_only before delta e.id h.id_is h.behind (omega arith) in
    let r = run_only e.id run (omega (arith, h.proper.run_fits, h.run_is)) (omega (arith, h.run_is)) in
    let l = length_only len (omega (arith, h.proper.some, h.length_is)) (omega (arith, h.proper.length_fits, h.length_is)) in
    let o = offset_only before offset e.offset h.offset_is h.proper.offset_fits in
    ap (λ (x : Read DirectoryFault ℕ). x >>= λ id. with_run before run len offset id) i
    ∙ ap (λ (x : Read DirectoryFault ℕ). x >>= λ r. with_length before len offset e.id r) r
    ∙ ap (λ (x : Read DirectoryFault ℕ). x >>= λ l. with_offset before offset e.id run l) l
    ∙ ap (λ (x : Read DirectoryFault ℕ). x >>= λ o. Ok (made e.id run len o)) o
    ∙ ap (λ (n : ℕ). done (made e.id n len e.offset)) (sym h.run_is)
    ∙ ap (λ (n : ℕ). done (made e.id e.run n e.offset)) (sym h.length_is)

pub entry_err : (before : Option DirectoryEntry) (delta run len offset : ℕ) (d : DirectoryFault) → entry_at before delta run len offset ≡ Err d
    → EntryHas before delta run len offset d
unfolding entry_at
entry_err before delta run len offset d eq =
    elim (then_err (id_at before delta) (λ id. with_run before run len offset id) d eq) [
      | inl e ↦ id_err before delta run len offset d e
      | inr i ↦
          elim (then_err (run_at i.0 run) (λ r. with_length before len offset i.0 r) d i.2) [
            | inl e ↦ run_err before delta i.0 run len offset d (id_ok before delta i.0 i.1).0 e
            | inr r ↦
                elim (then_err (length_at len) (λ l. with_offset before offset i.0 r.0 l) d r.2) [
                  | inl e ↦ length_err before delta run len offset d e
                  | inr l ↦
                      elim (then_err (offset_of before offset) (λ o. Ok (made i.0 r.0 l.0 o)) d l.2) [
                        | inl e ↦ offset_err before delta run len offset d e
                        | inr o ↦ absurd (not_both (made i.0 r.0 l.0 o.0) d o.2)
                      ]
                ]
          ]
    ]

-- ---- all entries

pub record AreSaid (before : Option DirectoryEntry) (ds rs ls os : List ℕ) (es : List DirectoryEntry) : Type 0 where
  pub deltas : ds ≡ id_deltas (id_from before) es
  pub runs : rs ≡ runs_of es
  pub lengths : ls ≡ lengths_of es
  pub offsets : AreOffsets (end_from before) os es
  pub ascend : AscendFrom (ids_from before) es
  pub each : AllByRecursion IsEntry es

said_none : (before : Option DirectoryEntry) (rs ls os : List ℕ) → length rs ≡ 0 → length ls ≡ 0 → length os ≡ 0 → AreSaid before [] rs ls os []
said_none before [] [] [] er el eo = record { deltas = refl; runs = refl; lengths = refl; offsets = tt; ascend = tt; each = tt }
said_none before (r ∷ rs) ls os er el eo = absurd (omega arith)
said_none before [] (l ∷ ls) os er el eo = absurd (omega arith)
said_none before [] [] (o ∷ os) er el eo = absurd (omega arith)

said_more : (before : Option DirectoryEntry) (d r l o : ℕ) (ds rs ls os : List ℕ) (e : DirectoryEntry) (es : List DirectoryEntry) → IsNext before d r l o e
    → AreSaid (Some e) ds rs ls os es → AreSaid before (d ∷ ds) (r ∷ rs) (l ∷ ls) (o ∷ os) (e ∷ es)
said_more before d r l o ds rs ls os e es n h = record {
  deltas = let k : d ≡ e.id - id_from before = omega (arith, n.id_is) in rw (k, h.deltas) refl;
  runs = rw (n.run_is, h.runs) refl;
  lengths = rw (n.length_is, h.lengths) refl;
  offsets = (n.offset_is, h.offsets);
  ascend = (n.behind, h.ascend);
  each = (n.proper, h.each);
}

pub entries_ok : (before : Option DirectoryEntry) (front : List DirectoryEntry) (ds rs ls os : List ℕ) (all : List DirectoryEntry) → length rs ≡ length ds
    → length ls ≡ length ds → length os ≡ length ds → AllByRecursion (λ n. n < 2 ^ 64) os
    → entries_at before front ds rs ls os ≡ Ok all → (es : List DirectoryEntry) × (all ≡ front ++ es) × AreSaid before ds rs ls os es
unfolding entries_at
entries_ok before front [] rs ls os all er el eo fit e =
    ([], sym (same_value front all e) ∙ sym (append-nil front), said_none before rs ls os er el eo)
entries_ok before front (d ∷ ds) [] ls os all er el eo fit e = absurd (omega arith)
entries_ok before front (d ∷ ds) (r ∷ rs) [] os all er el eo fit e = absurd (omega arith)
entries_ok before front (d ∷ ds) (r ∷ rs) (l ∷ ls) [] all er el eo fit e = absurd (omega arith)
entries_ok before front (d ∷ ds) (r ∷ rs) (l ∷ ls) (o ∷ os) all er el eo fit e =
    let x = then_ok (entry_at before d r l o) (λ e. entries_at (Some e) (front ++ e ∷ []) ds rs ls os) all e in
    let n = entry_ok before d r l o x.0 fit.0 x.1 in
    let h = entries_ok (Some x.0) (front ++ x.0 ∷ []) ds rs ls os all (omega arith) (omega arith) (omega arith) fit.1 x.2 in
    (x.0 ∷ h.0, h.1 ∙ append_assoc front (x.0 ∷ []) h.0, said_more before d r l o ds rs ls os x.0 h.0 n h.2)

id_below : (before : Option DirectoryEntry) → id_from before ≤ ids_from before
id_below None = omega arith
id_below (Some b) = omega arith

pub entries_only : (before : Option DirectoryEntry) (front es : List DirectoryEntry) (os : List ℕ) → AreOffsets (end_from before) os es
    → AscendFrom (ids_from before) es → AllByRecursion IsEntry es
    → entries_at before front (id_deltas (id_from before) es) (runs_of es) (lengths_of es) os ≡ Ok (front ++ es)
unfolding entries_at
entries_only before front [] [] offsets ascend each = ap (λ (all : List DirectoryEntry). done all) (sym (append-nil front))
entries_only before front [] (o ∷ os) offsets ascend each = absurd offsets
entries_only before front (e ∷ es) [] offsets ascend each = absurd offsets
entries_only before front (e ∷ es) (o ∷ os) offsets ascend each =
    let next : IsNext before (e.id - id_from before) e.run e.length o e = record {
      id_is = omega (arith, id_below before, ascend.0);
      run_is = refl;
      length_is = refl;
      offset_is = offsets.0;
      behind = ascend.0;
      proper = each.0;
    } in
    ap (λ (x : Read DirectoryFault DirectoryEntry). x >>= λ y. entries_at (Some y) (front ++ y ∷ []) (id_deltas e.id es) (runs_of es) (lengths_of es) os)
    (entry_only before (e.id - id_from before) e.run e.length o e next)
    ∙ entries_only (Some e) (front ++ e ∷ []) es os offsets.1 ascend.1 each.1
    ∙ ap (λ (all : List DirectoryEntry). done all) (append_assoc front (e ∷ []) es)

pub entries_err : (before : Option DirectoryEntry) (front : List DirectoryEntry) (ds rs ls os : List ℕ) (d : DirectoryFault) → length rs ≡ length ds
    → length ls ≡ length ds → length os ≡ length ds → AllByRecursion (λ n. n < 2 ^ 64) os
    → entries_at before front ds rs ls os ≡ Err d → EntriesHave before ds rs ls os d
unfolding entries_at
entries_err before front [] rs ls os d er el eo fit e = absurd (not_both front d e)
entries_err before front (x ∷ ds) [] ls os d er el eo fit e = absurd (omega arith)
entries_err before front (x ∷ ds) (r ∷ rs) [] os d er el eo fit e = absurd (omega arith)
entries_err before front (x ∷ ds) (r ∷ rs) (l ∷ ls) [] d er el eo fit e = absurd (omega arith)
entries_err before front (x ∷ ds) (r ∷ rs) (l ∷ ls) (o ∷ os) d er el eo fit e =
    elim (then_err (entry_at before x r l o) (λ e. entries_at (Some e) (front ++ e ∷ []) ds rs ls os) d e) [
      | inl here ↦ inl (entry_err before x r l o d here)
      | inr later ↦ inr (
        later.0,
        entry_ok before x r l o later.0 fit.0 later.1,
        entries_err (Some later.0) (front ++ later.0 ∷ []) ds rs ls os d (omega arith) (omega arith) (omega arith) fit.1 later.2,
      )
    ]
