-- Reading step by step.
use Rattle.std.proofs.Common.{◌≡◌, ℕ, ◌+◌, ◌<◌, ◌≤◌, List, [], ◌∷◌, ◌++◌, length, get_or, drop, add-one, Option, Some, Ok, Err, refl, sym, ◌∙◌, arith}
use Rattle.std.proofs.Math.Seq.{drop-cons}
use Rattle.std.proofs.lemmas.List.{drop_all}
use Rattle.reader.specs.Reading.{Read, ◌>>=◌}
use Rattle.reader.proofs.Steps.{done, then_on, then_stop}
use Rattle.pm_directory.specs.declared.entry.DirectoryEntry.{DirectoryEntry}
use Rattle.pm_directory.specs.declared.fault.DirectoryFault.{DirectoryFault}
use Rattle.pm_directory.specs.Reading.{number_at, one_more, entry_at, entries_at}

-- ---- numbers

pub one_on : (before rest after : List ℕ) (n : ℕ) → number_at rest ≡ Ok (n, after) → one_more (before, rest) ≡ Ok (before ++ n ∷ [], after)
unfolding one_more
one_on before rest after n e = then_on (number_at rest) (λ x. done (before ++ x.0 ∷ [], x.1)) (n, after) e

pub one_stop : (before rest : List ℕ) (d : DirectoryFault) → number_at rest ≡ Err d → one_more (before, rest) ≡ Err d
unfolding one_more
one_stop before rest d e = then_stop (number_at rest) (λ x. done (before ++ x.0 ∷ [], x.1)) d e

-- ---- entries

front_at : (xs : List ℕ) (i : ℕ) → i < length xs → drop i xs ≡ get_or xs i 0 ∷ drop (i + 1) xs
front_at xs i lt = rw (add-one) (drop-cons xs i 0 lt)

module _ (ds rs ls os : List ℕ) where
  -- the columns from an index on
  abbrev pub entries_from : Option DirectoryEntry → List DirectoryEntry → ℕ → Read DirectoryFault (List DirectoryEntry)
  entries_from before front i = entries_at before front (drop i ds) (drop i rs) (drop i ls) (drop i os)

  abbrev pub entry_from : Option DirectoryEntry → ℕ → Read DirectoryFault DirectoryEntry
  entry_from before i = entry_at before (get_or ds i 0) (get_or rs i 0) (get_or ls i 0) (get_or os i 0)

  abbrev behind : List DirectoryEntry → ℕ → DirectoryEntry → Read DirectoryFault (List DirectoryEntry)
  behind front i e = entries_from (Some e) (front ++ e ∷ []) (i + 1)

  entries_step : (before : Option DirectoryEntry) (front : List DirectoryEntry) (i : ℕ) → i < length ds → length rs ≡ length ds → length ls ≡ length ds
      → length os ≡ length ds → entries_from before front i ≡ (entry_from before i >>= behind front i)
  unfolding entries_at
  entries_step before front i lt er el eo =
      let d = front_at ds i lt in
      let r = front_at rs i (omega arith) in
      let l = front_at ls i (omega arith) in
      let o = front_at os i (omega arith) in
      rw (d, r, l, o) refl

  pub entries_on : (before : Option DirectoryEntry) (front : List DirectoryEntry) (i : ℕ) (e : DirectoryEntry)
      (whole : Read DirectoryFault (List DirectoryEntry)) → i < length ds → length rs ≡ length ds → length ls ≡ length ds → length os ≡ length ds
      → entry_from before i ≡ Ok e → entries_from before front i ≡ whole → entries_from (Some e) (front ++ e ∷ []) (i + 1) ≡ whole
  entries_on before front i e whole lt er el eo is so_far =
      sym (entries_step before front i lt er el eo ∙ then_on (entry_from before i) (behind front i) e is) ∙ so_far

  pub entries_stop : (before : Option DirectoryEntry) (front : List DirectoryEntry) (i : ℕ) (d : DirectoryFault)
      (whole : Read DirectoryFault (List DirectoryEntry)) → i < length ds → length rs ≡ length ds → length ls ≡ length ds → length os ≡ length ds
      → entry_from before i ≡ Err d → entries_from before front i ≡ whole → whole ≡ Err d
  entries_stop before front i d whole lt er el eo is so_far =
      sym so_far ∙ entries_step before front i lt er el eo ∙ then_stop (entry_from before i) (behind front i) d is

  pub entries_done : (before : Option DirectoryEntry) (front : List DirectoryEntry) (i : ℕ) (whole : Read DirectoryFault (List DirectoryEntry))
      → length ds ≤ i → entries_from before front i ≡ whole → whole ≡ Ok front
  unfolding entries_at
  entries_done before front i whole le so_far =
      let one : entries_from before front i ≡ Ok front = rw (drop_all i ds le) refl in
      sym so_far ∙ one
