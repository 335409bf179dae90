-- Listing, one entry after the other.
use Rattle.std.proofs.Common.{◌≡◌, ◌≢◌, ℕ, zero, suc, ◌+◌, ◌-◌, ◌<◌, ◌≤◌, List, [], ◌∷◌, ◌++◌, Ok, Err, Some, slice_get, length, take, drop, get_or, nat_lt}
use Rattle.std.proofs.Common.{true, refl, ◌∙◌}
use Rattle.std.proofs.Common.{append_assoc, arith, rules}
use Rattle.std.proofs.lemmas.Bool.{lt-ltb}
use Rattle.std.proofs.lemmas.List.{take_all, length-drop, drop_more}
use Rattle.pm_directory.specs.declared.entry.DirectoryEntry.{DirectoryEntry}
use Rattle.pm_header.specs.declared.header.Header.{Header}
use Rattle.pm_archive.specs.Entries.{LiesIn, LiesInside, bound_of}
use Rattle.reader.specs.Reading.{Read, ◌>>=◌}
use Rattle.reader.proofs.Steps.{unless_on}
use Rattle.pm_archive.specs.Reading.{each_at, leaf_at, lists_at, tile_at}
use Rattle.pm_archive.specs.Listing.{behind}
use Rattle.pm_archive.specs.Answers.{IsOutside, UnlessOutside}
use Rattle.pm_archive.specs.declared.fault.ArchiveFault.{ArchiveFault}

-- ---- after what there was

-- what was listed comes before what is listed next
pub behind_on : (before after : List DirectoryEntry) (front rest : Read ArchiveFault (List DirectoryEntry)) → behind before front ≡ Ok after
    → behind before (front >>= λ xs. rest >>= λ ys. Ok (xs ++ ys)) ≡ behind after rest
behind_on before after (Ok xs) (Ok ys) listed = let e : before ++ xs ≡ after = (cc) in rw (← e) (rw append_assoc refl)
behind_on before after (Ok xs) (Err d) listed = refl
behind_on before after (Err d) rest listed = cc

-- the first fault ends it
pub behind_fault : (before : List DirectoryEntry) (d : ArchiveFault) (front rest : Read ArchiveFault (List DirectoryEntry)) → behind before front ≡ Err d
    → behind before (front >>= λ xs. rest >>= λ ys. Ok (xs ++ ys)) ≡ Err d
behind_fault before d (Ok xs) rest listed = cc
behind_fault before d (Err e) rest listed = listed

-- ---- the entries in order

-- the bound of the entry at an index
bound_at : (bound : ℕ) (entries : List DirectoryEntry) (i : ℕ) (b : ℕ) → b ≡ bound_of bound (take (length entries - i) (drop i entries))
    → b ≡ bound_of bound (drop i entries)
bound_at bound entries i b is = let whole : take (length entries - i) (drop i entries) ≡ drop i entries =
    take_all (length entries - i) (drop i entries) (omega (arith, length-drop i entries)) in rw (← whole) is

module _ (lists : DirectoryEntry → ℕ → Read ArchiveFault (List DirectoryEntry)) (bound : ℕ) (entries : List DirectoryEntry) (i : ℕ)
    (d : DirectoryEntry) (before : List DirectoryEntry) (b : ℕ) where
  -- the entry at an index is listed
  pub each_on : (after : List DirectoryEntry) → i < length entries → b ≡ bound_of bound (take (length entries - (i + 1)) (drop (i + 1) entries))
      → behind before (lists (get_or entries i d) b) ≡ Ok after
      → behind before (each_at lists bound (drop i entries)) ≡ behind after (each_at lists bound (drop (i + 1) entries))
  each_on after lt is listed =
      let e = bound_at bound entries (i + 1) b is in
      let f = drop_more entries i d lt in
      rw f (behind_on before after (lists (get_or entries i d) (bound_of bound (drop (i + 1) entries))) (each_at lists bound (drop (i + 1) entries))
      (rw (← e) listed))

  fault_at : i < length entries → b ≡ bound_of bound (take (length entries - (i + 1)) (drop (i + 1) entries)) → (fault : ArchiveFault)
      → behind before (lists (get_or entries i d) b) ≡ Err fault
      → behind before (each_at lists bound (drop i entries)) ≡ Err fault
  fault_at lt is fault listed =
      let e = bound_at bound entries (i + 1) b is in
      let f = drop_more entries i d lt in
      rw f (behind_fault before fault (lists (get_or entries i d) (bound_of bound (drop (i + 1) entries))) (each_at lists bound (drop (i + 1) entries))
      (rw (← e) listed))

  -- the entry at an index has the first fault
  pub each_fault : (whole : Read ArchiveFault (List DirectoryEntry)) (fault : ArchiveFault) → i < length entries
      → b ≡ bound_of bound (take (length entries - (i + 1)) (drop (i + 1) entries)) → whole ≡ behind before (each_at lists bound (drop i entries))
      → UnlessOutside (λ e. behind before (lists (get_or entries i d) b) ≡ Err e) fault → UnlessOutside (λ e. whole ≡ Err e) fault
  each_fault whole fault lt is so_far listed = unless_on IsOutside fault (behind before (lists (get_or entries i d) b)) whole
      (λ e h. so_far ∙ fault_at lt is e h) listed

-- the first entry is inside its section, by those that were listed
pub first_lies : (h : Header) (es : List DirectoryEntry) (j : ℕ) (e : DirectoryEntry) → j < length es → (0 < j → LiesInside h (slice_get es 0))
    → LiesInside h (Some (get_or es j e)) → LiesInside h (slice_get es 0)
first_lies h [] j e lt before here = absurd (omega arith)
first_lies h (x ∷ es) zero e lt before here = here
first_lies h (x ∷ es) (suc j) e lt before here = before (omega arith)

-- ---- one entry

-- no number is below itself
pub not_zero : 0 < 0 → ⊥
not_zero none = omega (arith, none)

-- a tile entry names no leaf directory
pub tile_is_no_leaf : (e : DirectoryEntry) → 0 < e.run → e.run ≡ 0 → ⊥
tile_is_no_leaf e tile leaf = omega (arith, tile, leaf)

-- what a tile entry names is in the section of the tiles
pub tile_lies : (h : Header) (e : DirectoryEntry) → 0 < e.run → LiesIn h.tiles e → LiesInside h (Some e)
tile_lies h e tile lies = search rules

-- what a leaf names is in that of the leaf directories
pub leaf_lies : (h : Header) (e : DirectoryEntry) → e.run ≤ 0 → LiesIn h.leaves e → LiesInside h (Some e)
leaf_lies h e leaf lies = search rules

-- a tile entry
pub lists_tile : (bytes : List ℕ) (h : Header) (more : ℕ) (e : DirectoryEntry) (bound : ℕ) → 0 < e.run → lists_at bytes h more e bound ≡ tile_at h e
lists_tile bytes h zero e bound tile = let t : nat_lt 0 e.run ≡ true = lt-ltb 0 e.run tile in rw t refl
lists_tile bytes h (suc more) e bound tile = let t : nat_lt 0 e.run ≡ true = lt-ltb 0 e.run tile in rw t refl

-- a leaf
pub lists_leaf : (bytes : List ℕ) (h : Header) (more : ℕ) (e : DirectoryEntry) (bound : ℕ) → more ≢ 0 → e.run ≤ 0
    → lists_at bytes h more e bound ≡ (leaf_at bytes h e bound >>= each_at (lists_at bytes h (more - 1)) bound)
lists_leaf bytes h zero e bound some leaf = absurd (some refl)
lists_leaf bytes h (suc more) e bound some leaf =
    let run : e.run ≡ 0 = omega arith in
    let less : suc more - 1 ≡ more = omega arith in
    rw (run, less) refl

-- the first fault of a leaf directory
pub leaf_fault : (bytes : List ℕ) (h : Header) (more : ℕ) (e : DirectoryEntry) (bound : ℕ) (before : List DirectoryEntry) (fault : ArchiveFault) → more ≢ 0
    → e.run ≤ 0 → UnlessOutside (λ d. leaf_at bytes h e bound ≡ Err d) fault → UnlessOutside (λ d. behind before (lists_at bytes h more e bound) ≡ Err d) fault
leaf_fault bytes h more e bound before fault some leaf failed =
    let same = lists_leaf bytes h more e bound some leaf in
    unless_on IsOutside fault (leaf_at bytes h e bound) (behind before (lists_at bytes h more e bound)) (λ d at. rw (same, at) refl) failed
