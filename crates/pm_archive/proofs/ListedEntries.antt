-- What is read of the directories is what they list, and nothing else.
use Rattle.std.proofs.Common.{◌≡◌, ℕ, zero, suc, ◌+◌, ◌<◌, max, Bool, cond, ltb, leb, List, [], ◌∷◌, ◌++◌, Option, Some, None, Ok, Err, inl, inr, refl, sym, ap}
use Rattle.std.proofs.Common.{◌∙◌, arith}
use Rattle.std.proofs.lemmas.Bool.{ltb-true, ltb-false, leb-true, le-ltb, le-leb, lt-ltb}
use Rattle.hilbert_id.specs.declared.number.TheConstants.{TILE_IDS}
use Rattle.pm_header.specs.declared.header.Header.{Header}
use Rattle.pm_directory.specs.declared.entry.DirectoryEntry.{DirectoryEntry}
use Rattle.pm_directory.specs.declared.fault.DirectoryFault.{DirectoryFault}
use Rattle.pm_directory.specs.Directory.{ids_behind}
use Rattle.pm_directory.specs.Reading.{directory_at}
use Rattle.pm_directory.proofs.DirectoryLaws.{directory_ok, directory_only}
use Rattle.pm_archive.specs.declared.fault.ArchiveFault.{ArchiveFault}
use Rattle.pm_archive.specs.declared.fault.ArchiveFault.TheVariants as faults
use Rattle.pm_archive.specs.Entries.{entry_bytes, bound_of, AreBetween, EachLists, ListsTile, IsLeaf, Lists}
use Rattle.pm_archive.specs.declared.limits.TheConstants.{MAX_LEAF_LEVELS}
use Rattle.reader.specs.Reading.{Read, ◌>>=◌}
use Rattle.reader.proofs.Steps.{done, same_value, not_both, then_ok, pass_ok, either_ok}
use Rattle.pm_archive.specs.Reading.{stray_id, unless_stray, directory_or_fault, directory_of_entry, leaf_at, tile_at, each_at, lists_at, list_at}
use Rattle.pm_archive.proofs.ListedSteps.{pass_none, read_ok}

-- ---- ids

none_stray : (from bound : ℕ) (es : List DirectoryEntry) → stray_id from bound es ≡ None → AreBetween from bound es
none_stray from bound [] e = tt
none_stray from bound (x ∷ es) e =
    let a = pass_none (ltb x.id from) x.id (cond (ltb bound (ids_behind x)) (Some (max x.id bound)) (stray_id from bound es)) e in
    let b = pass_none (ltb bound (ids_behind x)) (max x.id bound) (stray_id from bound es) a.1 in
    ((ltb-false x.id from a.0, ltb-false bound (ids_behind x) b.0), none_stray from bound es b.1)

all_between : (from bound : ℕ) (es : List DirectoryEntry) → AreBetween from bound es → stray_id from bound es ≡ None
all_between from bound [] h = refl
all_between from bound (x ∷ es) h =
    ap (λ (b : Bool). cond b (Some x.id) (cond (ltb bound (ids_behind x)) (Some (max x.id bound)) (stray_id from bound es))) (le-ltb x.id from h.0.0)
    ∙ ap (λ (b : Bool). cond b (Some (max x.id bound)) (stray_id from bound es)) (le-ltb bound (ids_behind x) h.0.1)
    ∙ all_between from bound es h.1

kept_ok : (es fs : List DirectoryEntry) (stray : Option ℕ) → unless_stray es stray ≡ Ok fs → (stray ≡ None) × (es ≡ fs)
kept_ok es fs None e = (refl, same_value es fs e)
kept_ok es fs (Some id) e = absurd (not_both fs (faults.Order id) (sym e))

-- ---- leaf directories

pub leaf_ok : (bytes : List ℕ) (h : Header) (x : DirectoryEntry) (bound : ℕ) (es : List DirectoryEntry) → x.run ≡ 0 → leaf_at bytes h x bound ≡ Ok es
    → IsLeaf bytes h x bound es
unfolding leaf_at directory_of_entry
leaf_ok bytes h x bound es leaf e =
    let offset = h.leaves.offset + x.offset in
    let b = then_ok (directory_of_entry bytes h x) (λ (fs : List DirectoryEntry). unless_stray fs (stray_id x.id bound fs)) es e in
    let k = kept_ok b.0 es (stray_id x.id bound b.0) b.2 in
    let p = pass_ok (leb (x.offset + x.length) h.leaves.length) (faults.Place x.id)
    (directory_or_fault offset (directory_at (entry_bytes h.leaves x bytes))) b.0 b.1 in
    let is : IsLeaf bytes h x bound b.0 = record {
      leaf = leaf;
      inside = leb-true (x.offset + x.length) h.leaves.length p.0;
      directory = directory_ok (entry_bytes h.leaves x bytes) b.0 (read_ok offset (directory_at (entry_bytes h.leaves x bytes)) b.0 p.1);
      between = none_stray x.id bound b.0 k.0;
    } in
    rw (← k.1) is

pub leaf_only : (bytes : List ℕ) (h : Header) (x : DirectoryEntry) (bound : ℕ) (es : List DirectoryEntry) → IsLeaf bytes h x bound es
    → leaf_at bytes h x bound ≡ Ok es
unfolding leaf_at directory_of_entry
leaf_only bytes h x bound es is =
    let offset = h.leaves.offset + x.offset in
    let kept = λ (fs : List DirectoryEntry). unless_stray fs (stray_id x.id bound fs) in
    ap (λ (b : Bool). cond b (directory_or_fault offset (directory_at (entry_bytes h.leaves x bytes))) (Err (faults.Place x.id)) >>= kept)
    (le-leb (x.offset + x.length) h.leaves.length is.inside)
    ∙ ap (λ (r : Read DirectoryFault (List DirectoryEntry)). directory_or_fault offset r >>= kept)
    (directory_only (entry_bytes h.leaves x bytes) es is.directory)
    ∙ ap (unless_stray es) (all_between x.id bound es is.between)

-- ---- tile entries

pub tile_ok : (h : Header) (x : DirectoryEntry) (ts : List DirectoryEntry) → 0 < x.run → tile_at h x ≡ Ok ts → ListsTile h x ts
unfolding tile_at
tile_ok h x ts tile e =
    let p = pass_ok (leb (x.offset + x.length) h.tiles.length) (faults.Place x.id) (Ok (x ∷ [])) ts e in
    record { tile = tile; inside = leb-true (x.offset + x.length) h.tiles.length p.0; itself = sym (same_value (x ∷ []) ts p.1) }

pub tile_only : (h : Header) (x : DirectoryEntry) (ts : List DirectoryEntry) → ListsTile h x ts → tile_at h x ≡ Ok ts
unfolding tile_at
tile_only h x ts is =
    ap (λ (b : Bool). cond b (done (x ∷ [])) (Err (faults.Place x.id))) (le-leb (x.offset + x.length) h.tiles.length is.inside) ∙ ap done (sym is.itself)

-- ---- entries one after the other

module _ (lists : DirectoryEntry → ℕ → Read ArchiveFault (List DirectoryEntry)) (Leads : DirectoryEntry → ℕ → List DirectoryEntry → Type 0) where
  pub each_ok : ((x : DirectoryEntry) (bound : ℕ) (ts : List DirectoryEntry) → lists x bound ≡ Ok ts → Leads x bound ts)
      → (bound : ℕ) (es ts : List DirectoryEntry) → each_at lists bound es ≡ Ok ts → EachLists Leads bound es ts
  each_ok one bound [] ts e = sym (same_value [] ts e)
  each_ok one bound (x ∷ es) ts e =
      let f = then_ok (lists x (bound_of bound es)) (λ (front : List DirectoryEntry). each_at lists bound es >>= λ rest. Ok (front ++ rest)) ts e in
      let r = then_ok (each_at lists bound es) (λ (rest : List DirectoryEntry). done (f.0 ++ rest)) ts f.2 in
      (f.0, r.0, sym (same_value (f.0 ++ r.0) ts r.2), one x (bound_of bound es) f.0 f.1, each_ok one bound es r.0 r.1)

  pub each_only : ((x : DirectoryEntry) (bound : ℕ) (ts : List DirectoryEntry) → Leads x bound ts → lists x bound ≡ Ok ts)
      → (bound : ℕ) (es ts : List DirectoryEntry) → EachLists Leads bound es ts → each_at lists bound es ≡ Ok ts
  each_only one bound [] ts h = ap done (sym h)
  each_only one bound (x ∷ es) ts h =
      ap (λ (r : Read ArchiveFault (List DirectoryEntry)). r >>= λ front. each_at lists bound es >>= λ rest. done (front ++ rest))
      (one x (bound_of bound es) h.0 h.3)
      ∙ ap (λ (r : Read ArchiveFault (List DirectoryEntry)). r >>= λ rest. done (h.0 ++ rest)) (each_only one bound es h.1 h.4)
      ∙ ap done (sym h.2)

-- ---- entries of all depths

pub lists_ok : (bytes : List ℕ) (h : Header) (more : ℕ) (x : DirectoryEntry) (bound : ℕ) (ts : List DirectoryEntry) → lists_at bytes h more x bound ≡ Ok ts
    → Lists bytes h more x bound ts
lists_ok bytes h zero x bound ts e =
    let p = pass_ok (ltb 0 x.run) faults.Depth (tile_at h x) ts e in tile_ok h x ts (ltb-true 0 x.run p.0) p.1
lists_ok bytes h (suc more) x bound ts e =
    elim (either_ok (ltb 0 x.run) (tile_at h x) (leaf_at bytes h x bound >>= each_at (lists_at bytes h more) bound) ts e) [
      | inl t ↦ inl (tile_ok h x ts (ltb-true 0 x.run t.0) t.1)
      | inr l ↦
          let b = then_ok (leaf_at bytes h x bound) (each_at (lists_at bytes h more) bound) ts l.1 in
          let none : x.run ≡ 0 = omega (arith, ltb-false 0 x.run l.0) in
          inr (b.0, leaf_ok bytes h x bound b.0 none b.1, each_ok (lists_at bytes h more) (Lists bytes h more) (lists_ok bytes h more) bound b.0 ts b.2)
    ]

pub lists_only : (bytes : List ℕ) (h : Header) (more : ℕ) (x : DirectoryEntry) (bound : ℕ) (ts : List DirectoryEntry) → Lists bytes h more x bound ts
    → lists_at bytes h more x bound ≡ Ok ts
lists_only bytes h zero x bound ts is =
    ap (λ (b : Bool). cond b (tile_at h x) (Err faults.Depth)) (lt-ltb 0 x.run is.tile) ∙ tile_only h x ts is
lists_only bytes h (suc more) x bound ts is =
    let below : Read ArchiveFault (List DirectoryEntry) = leaf_at bytes h x bound >>= each_at (lists_at bytes h more) bound in
    elim is [
      | inl t ↦ ap (λ (b : Bool). cond b (tile_at h x) below) (lt-ltb 0 x.run t.tile) ∙ tile_only h x ts t
      | inr l ↦
          ap (λ (b : Bool). cond b (tile_at h x) below) (le-ltb 0 x.run (omega (arith, l.1.leaf)))
          ∙ ap (λ (r : Read ArchiveFault (List DirectoryEntry)). r >>= each_at (lists_at bytes h more) bound) (leaf_only bytes h x bound l.0 l.1)
          ∙ each_only (lists_at bytes h more) (Lists bytes h more) (lists_only bytes h more) bound l.0 ts l.2
    ]

-- the tile entries that are read below a root directory are those below it
pub list_ok : (bytes : List ℕ) (h : Header) (root ts : List DirectoryEntry) → list_at bytes h root ≡ Ok ts
    → EachLists (Lists bytes h MAX_LEAF_LEVELS) TILE_IDS root ts
list_ok bytes h root ts e = each_ok (lists_at bytes h MAX_LEAF_LEVELS) (Lists bytes h MAX_LEAF_LEVELS) (lists_ok bytes h MAX_LEAF_LEVELS) TILE_IDS root ts e

pub list_only : (bytes : List ℕ) (h : Header) (root ts : List DirectoryEntry) → EachLists (Lists bytes h MAX_LEAF_LEVELS) TILE_IDS root ts
    → list_at bytes h root ≡ Ok ts
list_only bytes h root ts each =
    each_only (lists_at bytes h MAX_LEAF_LEVELS) (Lists bytes h MAX_LEAF_LEVELS) (lists_only bytes h MAX_LEAF_LEVELS) TILE_IDS root ts each
