-- Listed tile entries are inside the section of the tiles, and have no more ids than there are.
use Rattle.std.proofs.Common.{◌≡◌, ℕ, zero, suc, ◌+◌, ◌^◌, ◌<◌, ◌≤◌, List, [], ◌∷◌, ◌++◌, inl, inr, sym, subst, Ok, arith}
use Rattle.std.specs.List.{AllByRecursion}
use Rattle.hilbert_id.specs.declared.number.TheConstants.{TILE_IDS}
use Rattle.pm_header.specs.declared.header.Header.{Header}
use Rattle.pm_directory.specs.declared.entry.DirectoryEntry.{DirectoryEntry}
use Rattle.pm_directory.specs.Counts.{addressed_by}
use Rattle.pm_directory.specs.Directory.{IsAscending, AscendFrom, IsEntry, ids_behind}
use Rattle.pm_archive.specs.Entries.{LiesIn, AreBetween, bound_of, EachLists, ListsTile, Lists}
use Rattle.pm_archive.specs.declared.limits.TheConstants.{MAX_LEAF_LEVELS}
use Rattle.pm_archive.specs.Reading.{list_at}
use Rattle.pm_archive.proofs.ListedEntries.{list_ok}
use Rattle.pm_archive.proofs.LookedLaws.{each_lie, lists_lie}

pub listed_inside : (bytes : List ℕ) (h : Header) (root tiles : List DirectoryEntry) → list_at bytes h root ≡ Ok tiles → AllByRecursion (LiesIn h.tiles) tiles
listed_inside bytes h root tiles r =
    each_lie h (Lists bytes h MAX_LEAF_LEVELS) (lists_lie bytes h MAX_LEAF_LEVELS) TILE_IDS root tiles (list_ok bytes h root tiles r)

-- ---- how many ids they have

addressed-append : (xs ys : List DirectoryEntry) → addressed_by (xs ++ ys) ≡ addressed_by xs + addressed_by ys
addressed-append [] ys = omega arith
addressed-append (x ∷ xs) ys = let h = addressed-append xs ys in omega arith

-- ---- what entries list

starts : (from low : ℕ) (es : List DirectoryEntry) → AscendFrom low es → AllByRecursion (λ e. from ≤ e.id) es → AscendFrom from es
starts from low [] a all = a
starts from low (e ∷ es) a all = (all.0, a.1)

between_start : (from bound : ℕ) (es : List DirectoryEntry) → AreBetween from bound es → AllByRecursion (λ e. from ≤ e.id) es
between_start from bound [] all = tt
between_start from bound (e ∷ es) all = (all.0.0, between_start from bound es all.1)

between_end : (from bound : ℕ) (es : List DirectoryEntry) → AreBetween from bound es → AllByRecursion (λ e. e.id + e.run ≤ bound) es
between_end from bound [] all = tt
between_end from bound (e ∷ es) all = (omega (arith, all.0.1), between_end from bound es all.1)

-- an entry's ids end before the next one's, or before the bound
entry_end : (bound : ℕ) (e : DirectoryEntry) (es : List DirectoryEntry) → AscendFrom (ids_behind e) es → e.id + e.run ≤ bound → e.id + e.run ≤ bound_of bound es
entry_end bound e [] a h = h
entry_end bound e (n ∷ es) a h = omega (arith, a.0)

next_start : (bound : ℕ) (low : ℕ) (es : List DirectoryEntry) → AscendFrom low es → AscendFrom (bound_of bound es) es
next_start bound low [] a = a
next_start bound low (n ∷ es) a = (omega arith, a.1)

next_below : (bound : ℕ) (es : List DirectoryEntry) → AllByRecursion (λ e. e.id + e.run ≤ bound) es → bound_of bound es ≤ bound
next_below bound [] all = omega arith
next_below bound (n ∷ es) all = omega (arith, all.0)

-- there are no more than ids from one on to the bound
abbrev AreFew : ℕ → ℕ → List DirectoryEntry → Type 0
AreFew from bound tiles = addressed_by tiles + from ≤ bound

each_counted : (Leads : DirectoryEntry → ℕ → List DirectoryEntry → Type 0)
    → ((e : DirectoryEntry) (bound : ℕ) (tiles : List DirectoryEntry) → e.id + e.run ≤ bound → Leads e bound tiles → AreFew e.id bound tiles)
    → (from bound : ℕ) (es tiles : List DirectoryEntry) → from ≤ bound → AscendFrom from es → AllByRecursion (λ e. e.id + e.run ≤ bound) es
    → EachLists Leads bound es tiles → AreFew from bound tiles
each_counted Leads one from bound [] tiles low ascend fit l = subst (AreFew from bound) (sym l) (omega arith)
each_counted Leads one from bound (e ∷ es) tiles low ascend fit l =
    let front : AreFew e.id (bound_of bound es) l.0 = one e (bound_of bound es) l.0 (entry_end bound e es ascend.1 fit.0) l.3 in
    let rest : AreFew (bound_of bound es) bound l.1 =
    each_counted Leads one (bound_of bound es) bound es l.1 (next_below bound es fit.1) (next_start bound (ids_behind e) es ascend.1) fit.1 l.4 in
    subst (AreFew from bound) (sym l.2) (rw addressed-append (omega (arith, ascend.0)))

tile_counted : (h : Header) (e : DirectoryEntry) (bound : ℕ) (tiles : List DirectoryEntry) → e.id + e.run ≤ bound → ListsTile h e tiles
    → AreFew e.id bound tiles
tile_counted h e bound tiles fits t = subst (AreFew e.id bound) (sym t.itself) (omega arith)

module _ (bytes : List ℕ) (h : Header) where
  lists_counted : (more : ℕ) (e : DirectoryEntry) (bound : ℕ) (tiles : List DirectoryEntry) → e.id + e.run ≤ bound → Lists bytes h more e bound tiles
      → AreFew e.id bound tiles
  lists_counted zero e bound tiles fits l = tile_counted h e bound tiles fits l
  lists_counted (suc more) e bound tiles fits l =
      elim l [
        | inl t ↦ tile_counted h e bound tiles fits t
        | inr d ↦
            let between = d.1.between in
            each_counted (Lists bytes h more) (lists_counted more) e.id bound d.0 tiles (omega arith)
            (starts e.id 0 d.0 d.1.directory.ascending (between_start e.id bound d.0 between)) (between_end e.id bound d.0 between) d.2
      ]

  fitting : (es : List DirectoryEntry) → AllByRecursion IsEntry es → AllByRecursion (λ e. e.id + e.run ≤ TILE_IDS) es
  fitting [] all = tt
  fitting (e ∷ es) all = (all.0.ids_fit, fitting es all.1)

  -- what they address has 64 bits
  pub listed_fit : (root tiles : List DirectoryEntry) → IsAscending root → AllByRecursion IsEntry root → list_at bytes h root ≡ Ok tiles
      → addressed_by tiles < 2 ^ 64
  listed_fit root tiles ascending each r =
      let all : AreFew 0 TILE_IDS tiles =
      each_counted (Lists bytes h MAX_LEAF_LEVELS) (lists_counted MAX_LEAF_LEVELS) 0 TILE_IDS root tiles (omega arith) ascending (fitting root each)
      (list_ok bytes h root tiles r) in
      omega arith
