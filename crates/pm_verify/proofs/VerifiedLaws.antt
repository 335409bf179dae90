-- Tiles that were decoded, and those that can't be.
use Rattle.std.proofs.Common.{◌≡◌, ◌≢◌, ℕ, zero, suc, ◌+◌, ◌<◌, inr, Bool, true, false, cond, ◌&&◌, List, [], ◌∷◌, length, get_or, drop, refl, sym, subst, ◌∙◌}
use Rattle.std.proofs.Common.{add-one, arith, slice_range, Ok, Err, Result, ◌↔◌}
use Rattle.std.specs.Prelude.{IfOk, IsTrue}
use Rattle.std.specs.declared.alloc.AllocError.{AllocError}
use Rattle.std.proofs.lemmas.Bool.{false≢true}
use Rattle.std.proofs.Math.Seq.{drop-cons}
use Rattle.std.specs.List.{AllByRecursion}
use Rattle.std.specs.Ordering.{is_eq, nat_cmp}
use Rattle.std.specs.Cmp.{tied_then, unsigned_tied, unsigned_Decides}
use Rattle.std.specs.BTreeMap.{is_at}
use Rattle.std.specs.BTreeSet.{BTreeSet, contains}
use Rattle.mvt_layer.specs.declared.fault.TileFault.{TileFault}
use Rattle.mvt_layer.specs.declared.fault.TileFault.TheVariants as tile_faults
use Rattle.mvt_layer.specs.Reads.{ReadsAs}
use Rattle.mvt_layer.specs.Tile.{LayerView}
use Rattle.pm_header.specs.declared.header.Header.{Header}
use Rattle.pm_directory.specs.declared.entry.DirectoryEntry.{DirectoryEntry}
use Rattle.pm_archive.specs.declared.fault.ArchiveFault.{ArchiveFault}
use Rattle.pm_archive.specs.Entries.{LiesIn}
use Rattle.pm_verify.specs.Verified.{IsTile, HasTile}
use Rattle.pm_verify.specs.VerifiedPieces.{IsFirstTileFault, span_cmp, AreRead}

-- ---- one tile

-- a fault that no tile has says that the bytes are no tile
pub refused_tile : (content : List ℕ) (d : TileFault) (r : Result Bool AllocError) → IfOk r (λ is. (is ≡ false) × (d ≢ tile_faults.Memory))
    → ((ls : List LayerView) → ReadsAs content ls → d ≡ tile_faults.Memory) → IfOk r (λ is. IsTrue is ↔ IsTile content)
refused_tile content d (Ok is) h only = (λ t. absurd (false≢true (sym h.0 ∙ t)), λ t. absurd (h.1 (only t.0 t.1)))
refused_tile content d (Err e) h only = tt

-- ---- spans

equal_numbers : (m n : ℕ) → is_eq (nat_cmp m n) ≡ true → m ≡ n
equal_numbers m n e = (unsigned_Decides m n).0 (sym (unsigned_tied m n) ∙ e)

both : (a b : Bool) → (a && b) ≡ true → (a ≡ true) × (b ≡ true)
both true b e = (refl, e)
both false b e = cc

equal_spans : (p q : ℕ × ℕ) → is_at (span_cmp p) q ≡ true → p ≡ q
equal_spans p q e =
    let h = both (is_eq (nat_cmp p.0 q.0)) (is_eq (nat_cmp p.1 q.1)) (tied_then (nat_cmp p.0 q.0) (nat_cmp p.1 q.1) ∙ e) in
    λ i. (equal_numbers p.0 q.0 h.0 i, equal_numbers p.1 q.1 h.1 i)

-- one more span
pub more_read : (bytes : List ℕ) (h : Header) (p : ℕ × ℕ) (s n : BTreeSet (ℕ × ℕ))
    → ((q : ℕ × ℕ) → contains span_cmp n q ≡ cond (is_at (span_cmp p) q) true (contains span_cmp s q))
    → AreRead bytes h s → IsTile (slice_range bytes (h.tiles.offset + p.0) (h.tiles.offset + p.0 + p.1)) → AreRead bytes h n
more_read bytes h p s n more before here q m = by (is_at (span_cmp p) q) refl (sym (more q) ∙ m)
  where
    At : ℕ × ℕ → Type 0
    At r = IsTile (slice_range bytes (h.tiles.offset + r.0) (h.tiles.offset + r.0 + r.1))

    by : (b : Bool) → is_at (span_cmp p) q ≡ b → cond b true (contains span_cmp s q) ≡ true
        → IsTile (slice_range bytes (h.tiles.offset + q.0) (h.tiles.offset + q.0 + q.1))
    by true e _ = let P : ℕ × ℕ → Type 0 = λ r. IsTile (slice_range bytes (h.tiles.offset + r.0) (h.tiles.offset + r.0 + r.1)) in subst P
        (equal_spans p q e) here
    by false _ k = before q k

-- ---- an archive with the same header

module _ (bytes : List ℕ) (e : DirectoryEntry) (h k : Header) (same : k ≡ h) where
  pub same_tile : (spans : BTreeSet (ℕ × ℕ)) → (LiesIn k.tiles e → AreRead bytes k spans → HasTile bytes k e) → LiesIn h.tiles e
      → AreRead bytes h spans → HasTile bytes h e
  same_tile spans = subst (λ (g : Header). LiesIn g.tiles e → AreRead bytes g spans → HasTile bytes g e) same

  pub same_spans : (old new : BTreeSet (ℕ × ℕ)) → (LiesIn k.tiles e → AreRead bytes k old → AreRead bytes k new) → LiesIn h.tiles e
      → AreRead bytes h old → AreRead bytes h new
  same_spans old new = subst (λ (g : Header). LiesIn g.tiles e → AreRead bytes g old → AreRead bytes g new) same

-- ---- each of some entries

pub at_index : (P : DirectoryEntry → Type 0) (es : List DirectoryEntry) (i : ℕ) (d : DirectoryEntry) → i < length es → AllByRecursion P es → P (get_or es i d)
at_index P [] i d below all = absurd (omega arith)
at_index P (e ∷ es) zero d below all = all.0
at_index P (e ∷ es) (suc i) d below all = at_index P es i d (omega arith) all.1

-- the entries from an index on
from_index : (es : List DirectoryEntry) (i : ℕ) (d : DirectoryEntry) → i < length es → drop i es ≡ get_or es i d ∷ drop (i + 1) es
from_index es i d below = rw add-one (drop-cons es i d below)

pub each_from : (P : DirectoryEntry → Type 0) (es : List DirectoryEntry) (i : ℕ) (d : DirectoryEntry) → i < length es → P (get_or es i d)
    → AllByRecursion P (drop (i + 1) es) → AllByRecursion P (drop i es)
each_from P es i d below here rest = subst (AllByRecursion P) (sym (from_index es i d below)) (here, rest)

pub first_from : (bytes : List ℕ) (h : Header) (es : List DirectoryEntry) (i : ℕ) (d : DirectoryEntry) (f : ArchiveFault) → i < length es
    → HasTile bytes h (get_or es i d) → IsFirstTileFault bytes h (drop (i + 1) es) f → IsFirstTileFault bytes h (drop i es) f
first_from bytes h es i d f below here rest =
    let P : List DirectoryEntry → Type 0 = λ xs. IsFirstTileFault bytes h xs f in
    subst P (sym (from_index es i d below)) (inr (here, rest))
