-- What directories list.
use Rattle.std.proofs.Common.{◌≡◌, ℕ, suc, ◌+◌, ◌<◌, ◌≤◌, List, [], ◌∷◌, ◌++◌, length, slice_range, refl, sym, ap, subst, ◌∙◌, inl, inr, arith}
use Rattle.std.specs.List.{AllByRecursion}
use Rattle.hilbert_id.specs.declared.number.TheConstants.{TILE_IDS}
use Rattle.pm_header.specs.declared.header.Header.{Header}
use Rattle.pm_directory.specs.declared.entry.DirectoryEntry.{DirectoryEntry}
use Rattle.pm_directory.specs.Directory.{ids_behind, AscendFrom, IsEntry, IsDirectory}
use Rattle.pm_archive.specs.Sections.{section_bytes}
use Rattle.pm_archive.specs.Entries.{entry_bytes, LiesIn, bound_of, EachLists, IsLeaf, Lists, HasEntries}
use Rattle.pm_build.specs.Leaves.{StartWith, NameLeaves, AreDirectories}
use Rattle.pm_build.proofs.Pieces.{part_of_part, all_front, all_back}
use Rattle.pm_build.proofs.Leaves.{ascend_front, ascend_back}

abbrev HasTiles : DirectoryEntry → Type 0
HasTiles e = 0 < e.run

-- tile entries list themselves
tiles_listed : (bytes : List ℕ) (h : Header) (more bound : ℕ) (es : List DirectoryEntry) → AllByRecursion HasTiles es → AllByRecursion (LiesIn h.tiles) es
    → EachLists (Lists bytes h (suc more)) bound es es
tiles_listed bytes h more bound [] tiles inside = refl
tiles_listed bytes h more bound (e ∷ es) tiles inside =
    (e ∷ [], es, refl, inl record { tile = tiles.0; inside = inside.0; itself = refl }, tiles_listed bytes h more bound es tiles.1 inside.1)

-- ---- the ids of a leaf

ids_from : (low from : ℕ) (es : List DirectoryEntry) → low ≤ from → AscendFrom from es → AllByRecursion (λ e. low ≤ e.id) es
ids_from low from [] le h = tt
ids_from low from (e ∷ es) le h = let at = h.0 in (omega arith, ids_from low (ids_behind e) es (omega arith) h.1)

comes_at : (from : ℕ) (es fs : List DirectoryEntry) (f : DirectoryEntry) → AscendFrom from (es ++ f ∷ fs) → from ≤ f.id
comes_at from [] fs f h = h.0
comes_at from (e ∷ es) fs f h = let at = h.0 in let later = comes_at (ids_behind e) es fs f h.1 in omega arith

ids_before : (from : ℕ) (es fs : List DirectoryEntry) (f : DirectoryEntry) → AscendFrom from (es ++ f ∷ fs) → AllByRecursion (λ e. ids_behind e ≤ f.id) es
ids_before from [] fs f h = tt
ids_before from (e ∷ es) fs f h = (comes_at (ids_behind e) es fs f h.1, ids_before (ids_behind e) es fs f h.1)

ids_last : (es : List DirectoryEntry) → AllByRecursion IsEntry es → AllByRecursion HasTiles es → AllByRecursion (λ e. ids_behind e ≤ TILE_IDS) es
ids_last [] each tiles = tt
ids_last (e ∷ es) each tiles = let fits = each.0.ids_fit in let some = tiles.0 in (omega arith, ids_last es each.1 tiles.1)

both : (P Q : DirectoryEntry → Type 0) (es : List DirectoryEntry) → AllByRecursion P es → AllByRecursion Q es → AllByRecursion (λ e. P e × Q e) es
both P Q [] p q = tt
both P Q (e ∷ es) p q = ((p.0, q.0), both P Q es p.1 q.1)

-- the ids of a leaf directory's entries are below those of the next
below_next : (bytes : List ℕ) (from : ℕ) (front rest names : List DirectoryEntry) → NameLeaves bytes names rest → AscendFrom from (front ++ rest)
    → AllByRecursion IsEntry front → AllByRecursion HasTiles front → AllByRecursion (λ e. ids_behind e ≤ bound_of TILE_IDS names) front
below_next bytes from front rest [] named h each tiles = ids_last front each tiles
below_next bytes from front rest (n ∷ ns) (next, others, parts, leaf, named) h each tiles =
    split next leaf.first (subst (λ (xs : List DirectoryEntry). AscendFrom from (front ++ xs)) parts h)
  where
    split : (next : List DirectoryEntry) → StartWith n.id next → AscendFrom from (front ++ (next ++ others)) → AllByRecursion (λ e. ids_behind e ≤ n.id) front
    split [] first h = absurd first
    split (f ∷ fs) first h = subst (λ (id : ℕ). AllByRecursion (λ e. ids_behind e ≤ id) front) first (ids_before from front (fs ++ others) f h)

from_first : (id from : ℕ) (front rest : List DirectoryEntry) → StartWith id front → AscendFrom from (front ++ rest) → AllByRecursion (λ e. id ≤ e.id) front
from_first id from [] rest first h = tt
from_first id from (f ∷ fs) rest first h =
    (omega (arith, first), ids_from id (ids_behind f) fs (omega (arith, first)) (ascend_front (ids_behind f) fs rest h.1))

-- ---- what names list

leaves_listed : (bytes leaves : List ℕ) (h : Header) (from : ℕ) (names es : List DirectoryEntry) → section_bytes h.leaves bytes ≡ leaves
    → h.leaves.length ≡ length leaves → NameLeaves leaves names es → AscendFrom from es → AllByRecursion IsEntry es → AllByRecursion HasTiles es
    → AllByRecursion (LiesIn h.tiles) es → EachLists (Lists bytes h 3) TILE_IDS names es
leaves_listed bytes leaves h from [] es at size named ascend each tiles inside = named
leaves_listed bytes leaves h from (n ∷ ns) es at size (front, rest, parts, leaf, named) ascend each tiles inside =
    let within = leaf.inside in
    let ascend' : AscendFrom from (front ++ rest) = subst (λ (xs : List DirectoryEntry). AscendFrom from xs) parts ascend in
    let each' : AllByRecursion IsEntry (front ++ rest) = subst (λ (xs : List DirectoryEntry). AllByRecursion IsEntry xs) parts each in
    let tiles' : AllByRecursion HasTiles (front ++ rest) = subst (λ (xs : List DirectoryEntry). AllByRecursion HasTiles xs) parts tiles in
    let inside' : AllByRecursion (LiesIn h.tiles) (front ++ rest) = subst (λ (xs : List DirectoryEntry). AllByRecursion (LiesIn h.tiles) xs) parts inside in
    let each_front = all_front IsEntry front rest each' in
    let tiles_front = all_front HasTiles front rest tiles' in
    let section : slice_range (section_bytes h.leaves bytes) n.offset (n.offset + n.length)
    ≡ slice_range bytes (h.leaves.offset + n.offset) (h.leaves.offset + (n.offset + n.length)) = part_of_part bytes h.leaves.offset
    (h.leaves.offset + h.leaves.length) n.offset (n.offset + n.length) (omega arith) in
    let sums : h.leaves.offset + (n.offset + n.length) ≡ h.leaves.offset + n.offset + n.length = omega arith in
    let there : slice_range leaves n.offset (n.offset + n.length) ≡ entry_bytes h.leaves n bytes =
    ap (λ (xs : List ℕ). slice_range xs n.offset (n.offset + n.length)) (sym at) ∙ section
    ∙ ap (λ (j : ℕ). slice_range bytes (h.leaves.offset + n.offset) j) sums in
    let is_leaf : IsLeaf bytes h n (bound_of TILE_IDS ns) front = record {
      leaf = leaf.leaf;
      inside = omega arith;
      directory = subst (λ (xs : List ℕ). IsDirectory xs front) there leaf.directory;
      between = both (λ e. n.id ≤ e.id) (λ e. ids_behind e ≤ bound_of TILE_IDS ns) front (from_first n.id from front rest leaf.first ascend')
          (below_next leaves from front rest ns named ascend' each_front tiles_front);
    } in (
      front,
      rest,
      parts,
      inr (front, is_leaf, tiles_listed bytes h 1 (bound_of TILE_IDS ns) front tiles_front (all_front (LiesIn h.tiles) front rest inside')),
      leaves_listed bytes leaves h from ns rest at size named (ascend_back from front rest ascend') (all_back IsEntry front rest each')
          (all_back HasTiles front rest tiles') (all_back (LiesIn h.tiles) front rest inside'),
    )

-- directories of tile entries list these
pub has_entries : (bytes root leaves : List ℕ) (h : Header) (es : List DirectoryEntry) → section_bytes h.root bytes ≡ root
    → section_bytes h.leaves bytes ≡ leaves → h.leaves.length ≡ length leaves → AreDirectories root leaves es → AscendFrom 0 es → AllByRecursion IsEntry es
    → AllByRecursion (λ e. 0 < e.run) es → AllByRecursion (LiesIn h.tiles) es → HasEntries bytes h es
has_entries bytes root leaves h es at_root at_leaves size (inl d) ascend each tiles inside =
    (es, subst (λ (xs : List ℕ). IsDirectory xs es) (sym at_root) d.0, tiles_listed bytes h 2 TILE_IDS es tiles inside)
has_entries bytes root leaves h es at_root at_leaves size (inr d) ascend each tiles inside =
    (d.0, subst (λ (xs : List ℕ). IsDirectory xs d.0) (sym at_root) d.1, leaves_listed bytes leaves h 0 d.0 es at_leaves size d.2 ascend each tiles inside)
