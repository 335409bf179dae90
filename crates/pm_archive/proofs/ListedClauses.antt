-- What is said of an archive that was opened, by what is read of it.
use Rattle.std.proofs.Common.{◌≡◌, ℕ, List, Result, Ok, Err, sym, ap, subst, ◌∙◌}
use Rattle.std.specs.Prelude.{IfOk, MatchResult}
use Rattle.hilbert_id.specs.declared.number.TheConstants.{TILE_IDS}
use Rattle.pm_header.specs.declared.header.Header.{Header}
use Rattle.pm_directory.specs.declared.entry.DirectoryEntry.{DirectoryEntry}
use Rattle.pm_directory.specs.Directory.{IsDirectory}
use Rattle.pm_directory.proofs.Laws.{one_directory}
use Rattle.pm_archive.specs.declared.fault.ArchiveFault.{ArchiveFault}
use Rattle.pm_archive.specs.Answers.{IsOutside}
use Rattle.pm_archive.specs.Sections.{section_bytes}
use Rattle.pm_archive.specs.Entries.{HasEntries, EachLists, Lists}
use Rattle.pm_archive.specs.declared.limits.TheConstants.{MAX_LEAF_LEVELS}
use Rattle.pm_archive.specs.Reading.{list_at}
use Rattle.reader.specs.Reading.{GivesUnless}
use Rattle.reader.proofs.Steps.{gives_found}
use Rattle.pm_archive.proofs.ListedSteps.{inside_or_outside}
use Rattle.pm_archive.proofs.ListedEntries.{list_ok, list_only}

-- ---- listing

-- the tile entries of an archive with this root directory are those that are read
pub listed : (bytes : List ℕ) (h : Header) (root tiles : List DirectoryEntry) → IsDirectory (section_bytes h.root bytes) root → HasEntries bytes h tiles
    → list_at bytes h root ≡ Ok tiles
listed bytes h root tiles dir has =
    ap (list_at bytes h) (one_directory (section_bytes h.root bytes) root has.0 dir has.1) ∙ list_only bytes h has.0 tiles has.2

pub has_each : (bytes : List ℕ) (h : Header) (root tiles : List DirectoryEntry) → IsDirectory (section_bytes h.root bytes) root → HasEntries bytes h tiles
    → EachLists (Lists bytes h MAX_LEAF_LEVELS) TILE_IDS root tiles
has_each bytes h root tiles dir has =
    subst (λ (es : List DirectoryEntry). EachLists (Lists bytes h MAX_LEAF_LEVELS) TILE_IDS es tiles)
    (one_directory (section_bytes h.root bytes) has.0 root has.1 dir) has.2

module _ {X : Type 0} (view : X → List DirectoryEntry) (bytes : List ℕ) (h : Header) (items root : List DirectoryEntry) (same : items ≡ root) where
  pub listed_found : (r : Result X ArchiveFault) → IsDirectory (section_bytes h.root bytes) root → GivesUnless IsOutside view r (list_at bytes h items)
      → IfOk r (λ x. HasEntries bytes h (view x))
  listed_found (Ok x) dir e = (root, dir, list_ok bytes h root (view x) (ap (list_at bytes h) (sym same) ∙ e))
  listed_found (Err d) dir e = tt

  pub listed_only : (r : Result X ArchiveFault) → IsDirectory (section_bytes h.root bytes) root → GivesUnless IsOutside view r (list_at bytes h items)
      → (tiles : List DirectoryEntry) → HasEntries bytes h tiles → MatchResult r (λ x. view x ≡ tiles) IsOutside
  listed_only r dir gives tiles has =
      gives_found IsOutside inside_or_outside view r (list_at bytes h items) tiles (ap (list_at bytes h) same ∙ listed bytes h root tiles dir has) gives
