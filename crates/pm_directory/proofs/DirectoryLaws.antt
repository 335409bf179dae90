-- Bytes that are read are a directory, a directory is read, and what is refused has the fault.
use Rattle.std.proofs.Common.{◌≡◌, ◌≢◌, ℕ, suc, ◌+◌, ◌*◌, ◌^◌, ◌<◌, ◌≤◌, Bool, false, cond, eqb, ltb, List, [], ◌∷◌, ◌++◌, length, take, drop, Option, Some}
use Rattle.std.proofs.Common.{None, Result, Ok, Err, ◌⊎◌, inl, inr, refl, sym, ap, subst, ◌∙◌, append_assoc, append-nil, arith}
use Rattle.std.specs.List.{AllByRecursion}
use Rattle.std.proofs.lemmas.Bool.{ltb-true, le-ltb, eqb-true, eqb-false}
use Rattle.std.proofs.lemmas.List.{take-append-drop, take_at, drop_at, length-take-le, length-drop, length-append, length-map}
use Rattle.std.specs.Prelude.{IfOk, IfErr, MatchResult}
use Rattle.pb_wire.specs.Varint.{IsVarint}
use Rattle.pm_directory.specs.declared.entry.DirectoryEntry.{DirectoryEntry}
use Rattle.pm_directory.specs.declared.fault.DirectoryFault.{DirectoryFault}
use Rattle.pm_directory.specs.declared.fault.DirectoryFault.TheVariants as faults
use Rattle.pm_directory.specs.Directory.{AreVarints, id_deltas, AreOffsets, runs_of, lengths_of, IsDirectory}
use Rattle.pm_directory.specs.Faulty.{DirectoryHas, at_count, few, at_number, bytes_behind, at_entry}
use Rattle.reader.specs.Reading.{Read, ◌>>=◌, Gives}
use Rattle.pm_directory.specs.Reading.{number_at, numbers_at, entries_at, columns_at, entries_of, directory_at}
use Rattle.reader.proofs.Steps.{gives_found, same_value, not_both, then_ok, then_err, guard_ok, guard_err, pass_ok, pass_err}
use Rattle.pm_directory.proofs.NumberLaws.{number_found, number_only, number_err, numbers_found, numbers_only, numbers_err}
use Rattle.pm_directory.proofs.EntryLaws.{AreSaid, entries_ok, entries_only, entries_err}

-- ---- varints

all_fit : (bytes ns : List ℕ) → AreVarints bytes ns → AllByRecursion (λ n. n < 2 ^ 64) ns
all_fit bytes [] h = tt
all_fit bytes (n ∷ ns) h = (h.3.fits, all_fit h.1 ns h.4)

fit_behind : (xs ys : List ℕ) → AllByRecursion (λ n. n < 2 ^ 64) (xs ++ ys) → AllByRecursion (λ n. n < 2 ^ 64) ys
fit_behind [] ys h = h
fit_behind (x ∷ xs) ys h = fit_behind xs ys h.1

some_byte : (front : List ℕ) (n : ℕ) → IsVarint front n → 0 < length front
some_byte [] n h = absurd h.groups
some_byte (b ∷ bs) n h = omega arith

as_many : (bytes ns : List ℕ) → AreVarints bytes ns → length ns ≤ length bytes
as_many bytes [] h = omega arith
as_many bytes (n ∷ ns) h =
    let len : length bytes ≡ length (h.0 ++ h.1) = ap length h.2 in
    omega (arith, len, length-append h.0 h.1, some_byte h.0 n h.3, as_many h.1 ns h.4)

no_bytes : (bytes : List ℕ) → length bytes ≡ 0 → bytes ≡ []
no_bytes [] e = refl
no_bytes (b ∷ bs) e = absurd (omega arith)

-- ---- columns

abbrev Pairs : Type 0
Pairs = ℕ × List ℕ

abbrev counted : ℕ × List ℕ → Read DirectoryFault Pairs
counted n = cond (ltb (length n.1) (4 * n.0)) (Err faults.Cut) (numbers_at (4 * n.0) n.1 >>= λ x. cond (eqb (length x.1) 0) (Ok (n.0, x.0)) (Err faults.Rest))

abbrev ended : ℕ → List ℕ × List ℕ → Read DirectoryFault Pairs
ended n x = cond (eqb (length x.1) 0) (Ok (n, x.0)) (Err faults.Rest)

columns_ok : (bytes : List ℕ) (n : ℕ) (xs : List ℕ) → columns_at bytes ≡ Ok (n, xs) → AreVarints bytes (n ∷ xs) × (length xs ≡ 4 * n)
unfolding columns_at
columns_ok bytes n xs e =
    let c = then_ok (number_at bytes) counted (n, xs) e in
    let g = guard_ok (ltb (length c.0.1) (4 * c.0.0)) faults.Cut (numbers_at (4 * c.0.0) c.0.1 >>= ended c.0.0) (n, xs) c.2 in
    let x = then_ok (numbers_at (4 * c.0.0) c.0.1) (ended c.0.0) (n, xs) g.1 in
    let p = pass_ok (eqb (length x.0.1) 0) faults.Rest (Ok (c.0.0, x.0.0)) (n, xs) x.2 in
    let f = number_found bytes c.0.0 c.0.1 c.1 in
    let h = numbers_found (4 * c.0.0) c.0.1 x.0.0 x.0.1 x.1 in
    let nothing : x.0.1 ≡ [] = no_bytes x.0.1 (eqb-true (length x.0.1) 0 p.0) in
    let whole : c.0.1 ≡ h.front = h.parts ∙ ap (λ (r : List ℕ). h.front ++ r) nothing ∙ append-nil h.front in
    subst (λ (q : Pairs). AreVarints bytes (q.0 ∷ q.1) × (length q.1 ≡ 4 * q.0)) (same_value (c.0.0, x.0.0) (n, xs) p.1) (
      (f.0, c.0.1, f.1, f.2, subst (λ (r : List ℕ). AreVarints r x.0.0) (sym whole) (subst (AreVarints h.front) (sym h.all_is) h.spelled)),
      ap length h.all_is ∙ h.count_is,
    )

columns_only : (bytes : List ℕ) (n : ℕ) (xs : List ℕ) → AreVarints bytes (n ∷ xs) → length xs ≡ 4 * n → columns_at bytes ≡ Ok (n, xs)
unfolding columns_at
columns_only bytes n xs h len =
    let one : number_at bytes ≡ Ok (n, h.1) = ap number_at h.2 ∙ number_only h.0 h.1 n h.3 in
    let room : ltb (length h.1) (4 * n) ≡ false = le-ltb (length h.1) (4 * n) (omega (arith, as_many h.1 xs h.4)) in
    let all : numbers_at (4 * n) h.1 ≡ Ok (xs, []) =
    ap (λ (k : ℕ). numbers_at k h.1) (sym len) ∙ ap (numbers_at (length xs)) (sym (append-nil h.1)) ∙ numbers_only xs h.1 [] h.4 in
    ap (λ (r : Read DirectoryFault (ℕ × List ℕ)). r >>= counted) one
    ∙ ap (λ (b : Bool). cond b (Err faults.Cut) (numbers_at (4 * n) h.1 >>= ended n)) room
    ∙ ap (λ (r : Read DirectoryFault (List ℕ × List ℕ)). r >>= ended n) all

columns_err : (bytes : List ℕ) (d : DirectoryFault) → columns_at bytes ≡ Err d → DirectoryHas bytes d
unfolding columns_at
columns_err bytes d e =
    elim (then_err (number_at bytes) counted d e) [
      | inl bad ↦ at_count (number_err bytes d bad)
      | inr c ↦
          let f = number_found bytes c.0.0 c.0.1 c.1 in
          elim (guard_err (ltb (length c.0.1) (4 * c.0.0)) faults.Cut d (numbers_at (4 * c.0.0) c.0.1 >>= ended c.0.0) c.2) [
            | inl g ↦ few g.1 c.0.0 f.0 c.0.1 f.1 f.2 (ltb-true (length c.0.1) (4 * c.0.0) g.0)
            | inr g ↦
                elim (then_err (numbers_at (4 * c.0.0) c.0.1) (ended c.0.0) d g.1) [
                  | inl bad ↦ at_number c.0.0 f.0 c.0.1 f.1 f.2 (numbers_err (4 * c.0.0) c.0.1 d bad)
                  | inr x ↦
                      elim (pass_err (eqb (length x.0.1) 0) faults.Rest d (Ok (c.0.0, x.0.0)) x.2) [
                        | inl p ↦ absurd (not_both (c.0.0, x.0.0) d p.1)
                        | inr p ↦
                            let h = numbers_found (4 * c.0.0) c.0.1 x.0.0 x.0.1 x.1 in
                            bytes_behind p.1 x.0.0 c.0.0 (f.0 ++ h.front) x.0.1
                            (f.1 ∙ ap (λ (r : List ℕ). f.0 ++ r) h.parts ∙ sym (append_assoc f.0 h.front x.0.1))
                            (f.0, h.front, refl, f.2, subst (AreVarints h.front) (sym h.all_is) h.spelled) (ap length h.all_is ∙ h.count_is)
                            (omega (arith, eqb-false (length x.0.1) 0 p.0))
                      ]
                ]
          ]
    ]

-- ---- four columns of one list

pub record AreColumns (n : ℕ) (xs ds rs ls os : List ℕ) : Type 0 where
  pub whole : xs ≡ ds ++ (rs ++ (ls ++ os))
  pub deltas : length ds ≡ n
  pub runs : length rs ≡ n
  pub lengths : length ls ≡ n
  pub offsets : length os ≡ n

split_columns : (n : ℕ) (xs : List ℕ) → length xs ≡ 4 * n
    → AreColumns n xs (take n xs) (take n (drop n xs)) (take n (drop n (drop n xs))) (drop n (drop n (drop n xs)))
split_columns n xs len =
    let a = length-drop n xs in
    let b = length-drop n (drop n xs) in
    let c = length-drop n (drop n (drop n xs)) in
    record {
      whole = sym (take-append-drop n xs) ∙ ap (λ (r : List ℕ). take n xs ++ r)
          (sym (take-append-drop n (drop n xs)) ∙ ap (λ (r : List ℕ). take n (drop n xs) ++ r) (sym (take-append-drop n (drop n (drop n xs)))));
      deltas = length-take-le n xs (omega arith);
      runs = length-take-le n (drop n xs) (omega arith);
      lengths = length-take-le n (drop n (drop n xs)) (omega arith);
      offsets = omega arith;
    }

entries_of_columns : (n : ℕ) (xs ds rs ls os : List ℕ) → AreColumns n xs ds rs ls os → entries_of n xs ≡ entries_at None [] ds rs ls os
entries_of_columns n xs ds rs ls os h =
    let one : drop n xs ≡ rs ++ (ls ++ os) = ap (drop n) h.whole ∙ drop_at ds (rs ++ (ls ++ os)) n h.deltas in
    let two : drop n (drop n xs) ≡ ls ++ os = ap (drop n) one ∙ drop_at rs (ls ++ os) n h.runs in
    let three : drop n (drop n (drop n xs)) ≡ os = ap (drop n) two ∙ drop_at ls os n h.lengths in
    let d : take n xs ≡ ds = ap (take n) h.whole ∙ take_at ds (rs ++ (ls ++ os)) n h.deltas in
    let r : take n (drop n xs) ≡ rs = ap (take n) one ∙ take_at rs (ls ++ os) n h.runs in
    let l : take n (drop n (drop n xs)) ≡ ls = ap (take n) two ∙ take_at ls os n h.lengths in
    λ i. entries_at None [] (d i) (r i) (l i) (three i)

-- ---- directories

length-deltas : (from : ℕ) (es : List DirectoryEntry) → length (id_deltas from es) ≡ length es
length-deltas from [] = refl
length-deltas from (e ∷ es) = ap (λ (n : ℕ). suc n) (length-deltas e.id es)

length-offsets : (end : Option ℕ) (os : List ℕ) (es : List DirectoryEntry) → AreOffsets end os es → length os ≡ length es
length-offsets end [] [] h = refl
length-offsets end [] (e ∷ es) h = absurd h
length-offsets end (o ∷ os) [] h = absurd h
length-offsets end (o ∷ os) (e ∷ es) h = ap (λ (n : ℕ). suc n) (length-offsets (Some (e.offset + e.length)) os es h.1)

abbrev Fits : ℕ → Type 0
Fits n = n < 2 ^ 64

offsets_fit : (bytes : List ℕ) (n : ℕ) (xs ds rs ls os : List ℕ) → AreVarints bytes (n ∷ xs) → AreColumns n xs ds rs ls os → AllByRecursion Fits os
offsets_fit bytes n xs ds rs ls os v k =
    fit_behind ls os (fit_behind rs (ls ++ os) (fit_behind ds (rs ++ (ls ++ os)) (subst (AllByRecursion Fits) k.whole (all_fit bytes (n ∷ xs) v).1)))

made_directory : (bytes : List ℕ) (n : ℕ) (xs ds rs ls os : List ℕ) (es : List DirectoryEntry) → AreVarints bytes (n ∷ xs) → AreColumns n xs ds rs ls os
    → AreSaid None ds rs ls os es → IsDirectory bytes es
made_directory bytes n xs ds rs ls os es v k said =
    let count : n ≡ length es = sym k.deltas ∙ ap length said.deltas ∙ length-deltas 0 es in
    let columns : n ∷ (ds ++ (rs ++ (ls ++ os))) ≡ length es ∷ (id_deltas 0 es ++ (runs_of es ++ (lengths_of es ++ os))) =
    λ i. count i ∷ (said.deltas i ++ (said.runs i ++ (said.lengths i ++ os))) in
    record {
      offsets = os;
      spelled = subst (AreVarints bytes) columns (subst (λ (ys : List ℕ). AreVarints bytes (n ∷ ys)) k.whole v);
      offsets_are = said.offsets;
      ascending = said.ascend;
      each = said.each;
    }

read_directory : (bytes : List ℕ) (n : ℕ) (xs ds rs ls os : List ℕ) (es : List DirectoryEntry) → AreVarints bytes (n ∷ xs) → AreColumns n xs ds rs ls os
    → entries_at None [] ds rs ls os ≡ Ok es → IsDirectory bytes es
read_directory bytes n xs ds rs ls os es v k e =
    let x = entries_ok None [] ds rs ls os es (omega (arith, k.runs, k.deltas)) (omega (arith, k.lengths, k.deltas)) (omega (arith, k.offsets, k.deltas))
    (offsets_fit bytes n xs ds rs ls os v k) e in
    subst (IsDirectory bytes) (sym x.1) (made_directory bytes n xs ds rs ls os x.0 v k x.2)

refused_directory : (bytes : List ℕ) (n : ℕ) (xs ds rs ls os : List ℕ) (d : DirectoryFault) → AreVarints bytes (n ∷ xs) → AreColumns n xs ds rs ls os
    → entries_at None [] ds rs ls os ≡ Err d → DirectoryHas bytes d
refused_directory bytes n xs ds rs ls os d v k e =
    let er : length rs ≡ length ds = omega (arith, k.runs, k.deltas) in
    let el : length ls ≡ length ds = omega (arith, k.lengths, k.deltas) in
    let eo : length os ≡ length ds = omega (arith, k.offsets, k.deltas) in
    let columns : n ∷ xs ≡ length ds ∷ (ds ++ (rs ++ (ls ++ os))) = λ i. sym k.deltas i ∷ k.whole i in
    at_entry ds rs ls os er el eo (subst (AreVarints bytes) columns v) (entries_err None [] ds rs ls os d er el eo (offsets_fit bytes n xs ds rs ls os v k) e)

pub directory_ok : (bytes : List ℕ) (es : List DirectoryEntry) → directory_at bytes ≡ Ok es → IsDirectory bytes es
unfolding directory_at
directory_ok bytes es e =
    let c = then_ok (columns_at bytes) (λ c. entries_of c.0 c.1) es e in
    let h = columns_ok bytes c.0.0 c.0.1 c.1 in
    read_directory bytes c.0.0 c.0.1 _ _ _ _ es h.0 (split_columns c.0.0 c.0.1 h.1) c.2

pub directory_only : (bytes : List ℕ) (es : List DirectoryEntry) → IsDirectory bytes es → directory_at bytes ≡ Ok es
unfolding directory_at
directory_only bytes es h =
    let os = h.offsets in
    let n = length es in
    let xs = id_deltas 0 es ++ (runs_of es ++ (lengths_of es ++ os)) in
    let eo = length-offsets None os es h.offsets_are in
    let ed = length-deltas 0 es in
    let er = length-map es (λ e. e.run) in
    let el = length-map es (λ e. e.length) in
    let len : length xs ≡ 4 * n = omega (
      arith,
      length-append (id_deltas 0 es) (runs_of es ++ (lengths_of es ++ os)),
      length-append (runs_of es) (lengths_of es ++ os),
      length-append (lengths_of es) os,
      ed,
      er,
      el,
      eo,
    ) in
    let columns : AreColumns n xs (id_deltas 0 es) (runs_of es) (lengths_of es) os =
    record { whole = refl; deltas = ed; runs = er; lengths = el; offsets = eo } in
    ap (λ (r : Read DirectoryFault Pairs). r >>= λ c. entries_of c.0 c.1) (columns_only bytes n xs h.spelled len)
    ∙ entries_of_columns n xs (id_deltas 0 es) (runs_of es) (lengths_of es) os columns
    ∙ entries_only None [] es os h.offsets_are h.ascending h.each

pub directory_err : (bytes : List ℕ) (d : DirectoryFault) → directory_at bytes ≡ Err d → DirectoryHas bytes d
unfolding directory_at
directory_err bytes d e =
    elim (then_err (columns_at bytes) (λ c. entries_of c.0 c.1) d e) [
      | inl bad ↦ columns_err bytes d bad
      | inr c ↦ let h = columns_ok bytes c.0.0 c.0.1 c.1 in refused_directory bytes c.0.0 c.0.1 _ _ _ _ d h.0 (split_columns c.0.0 c.0.1 h.1) c.2
    ]

-- ---- the clauses of a function that gives what reading gives

is_memory : (d : DirectoryFault) → (d ≡ faults.Memory) ⊎ (d ≢ faults.Memory)
is_memory faults.Memory = inl refl
is_memory _ = inr (λ e. cc)

module _ {X : Type 0} (view : X → List DirectoryEntry) (bytes : List ℕ) where
  pub found_clause : (r : Result X DirectoryFault) → Gives faults.Memory view r (directory_at bytes) → IfOk r (λ x. IsDirectory bytes (view x))
  found_clause (Ok x) h = directory_ok bytes (view x) h
  found_clause (Err d) h = tt

  pub only_clause : (r : Result X DirectoryFault) → Gives faults.Memory view r (directory_at bytes) → (es : List DirectoryEntry) → IsDirectory bytes es
      → MatchResult r (λ x. view x ≡ es) (λ d. d ≡ faults.Memory)
  only_clause r h es is = gives_found (λ d. d ≡ faults.Memory) is_memory view r (directory_at bytes) es (directory_only bytes es is) h

  pub fault_clause : (r : Result X DirectoryFault) → Gives faults.Memory view r (directory_at bytes) → IfErr r (λ d. d ≢ faults.Memory → DirectoryHas bytes d)
  fault_clause (Ok x) h = tt
  fault_clause (Err d) h = λ other. directory_err bytes d (h other)
