-- The first fault of an open archive, by the step that finds it.
use Rattle.std.proofs.Common.{◌≡◌, ℕ, inl, inr, List, [], ◌∷◌, ◌++◌, refl, subst, append_assoc, Ok, Err}
use Rattle.std.specs.List.{AllByRecursion}
use Rattle.pm_header.specs.declared.header.Header.{Header}
use Rattle.pm_directory.specs.declared.entry.DirectoryEntry.{DirectoryEntry}
use Rattle.pm_archive.specs.declared.fault.ArchiveFault.{ArchiveFault}
use Rattle.pm_archive.specs.Answers.{UnlessOutside}
use Rattle.pm_archive.specs.Sections.{section_bytes}
use Rattle.pm_metadata.specs.Archive.{IsMetadata, HasCounts}
use Rattle.pm_archive.specs.Reading.{list_at}
use Rattle.pm_verify.specs.Verified.{AreVector, HasTile, VerifyingHas}
use Rattle.pm_verify.specs.Verified.VerifyingHas.{bad_count, bad_entries, bad_tile}
use Rattle.pm_verify.specs.VerifiedPieces.{IsFirstTileFault, IsCountFault}
use Rattle.pm_archive.proofs.ListedSteps.{unless_weaker}

-- what is listed below a root directory, told of the same header and root
pub same_listed : (bytes : List ℕ) (tiles : List DirectoryEntry) {h k : Header} {root entries : List DirectoryEntry} → h ≡ k → root ≡ entries
    → list_at bytes h root ≡ Ok tiles → list_at bytes k entries ≡ Ok tiles
same_listed bytes tiles {h} {k} {root} {entries} e f listed = subst (λ (g : Header). list_at bytes g entries ≡ Ok tiles) e
    (subst (λ (es : List DirectoryEntry). list_at bytes h es ≡ Ok tiles) f listed)

-- the first fault of listing
pub other_listing : (bytes : List ℕ) (k : Header) (entries : List DirectoryEntry) (d : ArchiveFault) {h : Header} {root : List DirectoryEntry} → h ≡ k
    → root ≡ entries → IsMetadata (section_bytes k.metadata bytes) → UnlessOutside (λ e. list_at bytes h root ≡ Err e) d
    → UnlessOutside (VerifyingHas bytes k entries) d
other_listing bytes k entries d {h} {root} e f metadata = unless_weaker (λ x. list_at bytes h root ≡ Err x) (VerifyingHas bytes k entries)
    (λ x failed. bad_entries metadata (subst (λ (g : Header). list_at bytes g entries ≡ Err x) e
    (subst (λ (es : List DirectoryEntry). list_at bytes h es ≡ Err x) f failed))) d

all_more : (P : DirectoryEntry → Type 0) (es : List DirectoryEntry) (e : DirectoryEntry) → AllByRecursion P es → P e → AllByRecursion P (es ++ e ∷ [])
all_more P [] e all here = (here, tt)
all_more P (x ∷ es) e all here = (all.0, all_more P es e all.1 here)

module _ (bytes : List ℕ) (h : Header) (root : List DirectoryEntry) (tiles : List DirectoryEntry) (metadata : IsMetadata (section_bytes h.metadata bytes))
    (listed : list_at bytes h root ≡ Ok tiles) where
  pub other_count : (d : ArchiveFault) → UnlessOutside (IsCountFault h tiles) d → UnlessOutside (VerifyingHas bytes h root) d
  other_count = unless_weaker (IsCountFault h tiles) (VerifyingHas bytes h root) (λ d f. bad_count f.0 tiles f.1 metadata listed f.2)

  -- after the tiles that can be decoded, the first that can't
  first_unread : HasCounts h tiles → AreVector h → (d : ArchiveFault) (front es : List DirectoryEntry) → tiles ≡ front ++ es
      → AllByRecursion (HasTile bytes h) front → IsFirstTileFault bytes h es d → VerifyingHas bytes h root d
  first_unread counts vector d front [] parts read f = absurd f
  first_unread counts vector d front (e ∷ es) parts read (inl f) =
      bad_tile front e es f.0 metadata (subst (λ (ts : List DirectoryEntry). list_at bytes h root ≡ Ok ts) parts listed)
      (subst (HasCounts h) parts counts) vector read f.1
  first_unread counts vector d front (e ∷ es) parts read (inr f) =
      first_unread counts vector d (front ++ e ∷ []) es (rw append_assoc parts) (all_more (HasTile bytes h) front e read f.0) f.1

  pub other_tile : HasCounts h tiles → (d : ArchiveFault) → UnlessOutside (λ f. AreVector h × IsFirstTileFault bytes h tiles f) d
      → UnlessOutside (VerifyingHas bytes h root) d
  other_tile counts = unless_weaker (λ f. AreVector h × IsFirstTileFault bytes h tiles f) (VerifyingHas bytes h root)
      (λ d f. first_unread counts f.0 d [] tiles refl tt f.1)
