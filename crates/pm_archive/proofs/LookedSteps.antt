-- Looking step by step.
use Rattle.std.proofs.Common.{◌≡◌, ℕ, zero, suc, ◌-◌, ◌≤◌, false, ltb, List, Some, Result, Ok, Err, OnOk, Option, refl, sym, ap, subst, ◌∙◌, arith}
use Rattle.std.proofs.lemmas.Bool.{le-ltb}
use Rattle.pm_header.specs.declared.header.Header.{Header}
use Rattle.pm_directory.specs.declared.entry.DirectoryEntry.{DirectoryEntry}
use Rattle.pm_archive.specs.declared.fault.ArchiveFault.{ArchiveFault}
use Rattle.pm_archive.specs.declared.limits.TheConstants.{MAX_LEAF_LEVELS}
use Rattle.reader.specs.Reading.{Read, ◌>>=◌, GivesUnless}
use Rattle.reader.proofs.Steps.{unless_on, then_on, then_stop}
use Rattle.pm_archive.specs.Answers.{IsOutside, UnlessOutside}
use Rattle.pm_archive.specs.Entries.{LiesIn}
use Rattle.pm_archive.specs.Looked.{leading_of, leading_at, reached_at, content_at, looked_at}

-- ---- a leaf directory

-- the one that an entry names is inside, whatever is answered
pub lies_named : {T : Type 0} (h : Header) (entry : Option DirectoryEntry) (leaf : DirectoryEntry) (r : Result T ArchiveFault) → entry ≡ Some leaf
    → LiesIn h.leaves leaf → (named : DirectoryEntry) → entry ≡ Some named → OnOk r (LiesIn h.leaves named)
lies_named {T} h entry leaf (Err d) is lies named names = tt
lies_named {T} h entry leaf (Ok x) is lies named names =
    let same : leaf ≡ named = cc in
    subst (LiesIn h.leaves) same lies

-- a fault of a leaf directory is one of the way through it
pub reached_fault : (bytes : List ℕ) (h : Header) (id more : ℕ) (leaf : DirectoryEntry) (d : ArchiveFault) → leaf.run ≤ 0 → (more ≡ 0 → ⊥)
    → UnlessOutside (λ f. leading_at bytes h id leaf ≡ Err f) d → UnlessOutside (λ f. reached_at bytes h id more (Some leaf) ≡ Err f) d
unfolding reached_at
reached_fault bytes h id zero leaf d names some = absurd (some refl)
reached_fault bytes h id (suc more) leaf d names some =
    let none : ltb 0 leaf.run ≡ false = le-ltb 0 leaf.run names in
    unless_on IsOutside d (leading_at bytes h id leaf) (reached_at bytes h id (suc more) (Some leaf)) (λ f e. rw (none, e) refl)

-- what is answered for the entry to which a leaf directory leads is what is answered for the entry that names it
pub reached_on : {X : Type 0} (bytes : List ℕ) (h : Header) (id : ℕ) (view : X → Option DirectoryEntry) (r : Result X ArchiveFault) (more : ℕ)
    (leaf : DirectoryEntry) (below : Option DirectoryEntry) → leaf.run ≤ 0 → (more ≡ 0 → ⊥) → leading_at bytes h id leaf ≡ Ok below
    → GivesUnless IsOutside view r (reached_at bytes h id (more - 1) below) → GivesUnless IsOutside view r (reached_at bytes h id more (Some leaf))
unfolding reached_at
reached_on {X} bytes h id view r zero leaf below names some leads a = absurd (some refl)
reached_on {X} bytes h id view r (suc more) leaf below names some leads a =
    let none : ltb 0 leaf.run ≡ false = le-ltb 0 leaf.run names in
    let less : suc more - 1 ≡ more = omega arith in
    let same : reached_at bytes h id (suc more) (Some leaf) ≡ reached_at bytes h id (suc more - 1) below = rw (none, leads, less) refl in
    subst (λ (reading : Read ArchiveFault (Option DirectoryEntry)). GivesUnless IsOutside view r reading) (sym same) a

-- ---- a content

module _ (bytes : List ℕ) (h : Header) (id : ℕ) (root : List DirectoryEntry) (start : Option DirectoryEntry) (leads : start ≡ leading_of id root) where
  looked_from : looked_at bytes h root id ≡ (reached_at bytes h id MAX_LEAF_LEVELS start >>= content_at bytes h)
  unfolding looked_at
  looked_from = ap (λ (o : Option DirectoryEntry). reached_at bytes h id MAX_LEAF_LEVELS o >>= content_at bytes h) (sym leads)

  -- what is answered for the tile entry to which the way leads
  pub looked_on : {X : Type 0} (view : X → Option (List ℕ)) (r : Result X ArchiveFault) (found : Option DirectoryEntry)
      → reached_at bytes h id MAX_LEAF_LEVELS start ≡ Ok found → GivesUnless IsOutside view r (content_at bytes h found)
      → GivesUnless IsOutside view r (looked_at bytes h root id)
  looked_on {X} view r found is a =
      let same : looked_at bytes h root id ≡ content_at bytes h found =
      looked_from ∙ then_on (reached_at bytes h id MAX_LEAF_LEVELS start) (content_at bytes h) found is in
      subst (λ (reading : Read ArchiveFault (Option (List ℕ))). GivesUnless IsOutside view r reading) (sym same) a

  -- a fault on the way
  pub looked_fault : (d : ArchiveFault) → UnlessOutside (λ f. reached_at bytes h id MAX_LEAF_LEVELS start ≡ Err f) d
      → UnlessOutside (λ f. looked_at bytes h root id ≡ Err f) d
  looked_fault d =
      unless_on IsOutside d (reached_at bytes h id MAX_LEAF_LEVELS start) (looked_at bytes h root id)
      (λ f e. looked_from ∙ then_stop (reached_at bytes h id MAX_LEAF_LEVELS start) (content_at bytes h) f e)
