-- What is said of an archive that was verified, by its steps.
use Rattle.std.proofs.Common.{◌≡◌, ℕ, List, [], ◌∷◌, ◌++◌, Result, Ok, Err, sym, ap, subst, ◌∙◌}
use Rattle.std.specs.List.{AllByRecursion}
use Rattle.std.specs.Prelude.{IfOk, IfErr, MatchResult}
use Rattle.reader.proofs.Steps.{same_value, not_both}
use Rattle.pm_header.specs.declared.header.Header.{Header}
use Rattle.pm_directory.specs.declared.entry.DirectoryEntry.{DirectoryEntry}
use Rattle.pm_directory.specs.Directory.{IsDirectory}
use Rattle.pm_archive.specs.declared.fault.ArchiveFault.{ArchiveFault}
use Rattle.pm_archive.specs.declared.fault.Count.{Count}
use Rattle.pm_archive.specs.Answers.{IsOutside, UnlessOutside}
use Rattle.pm_archive.specs.Sections.{HasSections, section_bytes}
use Rattle.pm_archive.specs.Reading.{list_at}
use Rattle.pm_archive.proofs.ListedClauses.{listed}
use Rattle.pm_archive.proofs.ListedEntries.{list_ok}
use Rattle.pm_archive.proofs.ListedSteps.{is_outside}
use Rattle.pm_archive.proofs.OpenedLaws.{one_header}
use Rattle.pm_metadata.specs.Archive.{HasCounts}
use Rattle.pm_verify.specs.declared.report.Report.{Report}
use Rattle.pm_verify.specs.Verified.{HasTile, IsSound, IsVerified, HasOtherCount, VerifyingHas, report_of}

sound : (bytes : List ℕ) (h : Header) (root : List DirectoryEntry) (report : Report) → HasSections bytes h → IsDirectory (section_bytes h.root bytes) root
    → IsVerified bytes h root report → IsSound bytes report
sound bytes h root report has dir v = record {
  header = h;
  tiles = v.tiles;
  archive = record { sections = has; entries = (root, dir, list_ok bytes h root v.tiles v.listed); counts = v.counts; metadata = v.metadata };
  each = v.each;
  told = v.told;
}

pub verified : (bytes : List ℕ) (h : Header) (root : List DirectoryEntry) (report : Report) → HasSections bytes h
    → IsDirectory (section_bytes h.root bytes) root → IsSound bytes report → IsVerified bytes h root report
verified bytes h root report has dir s =
    let same = one_header bytes h s.header has.header s.archive.sections.header in
    let there = subst (λ (g : Header). IsDirectory (section_bytes g.root bytes) root) same dir in
    let v : IsVerified bytes s.header root report = record {
      metadata = s.archive.metadata;
      tiles = s.tiles;
      listed = listed bytes s.header root s.tiles there s.archive.entries;
      counts = s.archive.counts;
      each = s.each;
      told = s.told;
    } in
    subst (λ (g : Header). IsVerified bytes g root report) (sym same) v

same_tiles : (bytes : List ℕ) (h : Header) (root some others : List DirectoryEntry) → list_at bytes h root ≡ Ok some → list_at bytes h root ≡ Ok others
    → some ≡ others
same_tiles bytes h root some others a b = same_value some others (sym a ∙ b)

one_report : (bytes : List ℕ) (h : Header) (root : List DirectoryEntry) (r s : Report) → IsVerified bytes h root r → IsVerified bytes h root s → r ≡ s
one_report bytes h root r s v w = v.told ∙ ap report_of (same_tiles bytes h root v.tiles w.tiles v.listed w.listed) ∙ sym w.told

counts_agree : (h : Header) (tiles : List DirectoryEntry) (c : Count) → HasCounts h tiles → HasOtherCount h tiles c → ⊥
counts_agree h tiles c has (HasOtherCount.other_addressed e other) = other has.addressed
counts_agree h tiles c has (HasOtherCount.other_entries e a other) = other has.entries
counts_agree h tiles c has (HasOtherCount.other_contents e a s other) = other has.contents

at_middle : (P : DirectoryEntry → Type 0) (front : List DirectoryEntry) (x : DirectoryEntry) (rest : List DirectoryEntry) → AllByRecursion P (front ++ x ∷ rest)
    → P x
at_middle P [] x rest all = all.0
at_middle P (y ∷ front) x rest all = at_middle P front x rest all.1

passes : (bytes : List ℕ) (h : Header) (root : List DirectoryEntry) (report : Report) (d : ArchiveFault) → IsVerified bytes h root report
    → VerifyingHas bytes h root d → ⊥
passes bytes h root report d v (VerifyingHas.bad_metadata e other) = other v.metadata
passes bytes h root report d v (VerifyingHas.bad_entries m e) = not_both v.tiles d (sym v.listed ∙ e)
passes bytes h root report d v (VerifyingHas.bad_count c tiles e m l other) =
    counts_agree h tiles c (subst (HasCounts h) (same_tiles bytes h root v.tiles tiles v.listed l) v.counts) other
passes bytes h root report d v (VerifyingHas.bad_tile front x rest e m l counts vector all other) =
    other (at_middle (HasTile bytes h) front x rest (subst (AllByRecursion (HasTile bytes h)) (same_tiles bytes h root v.tiles (front ++ x ∷ rest) v.listed l)
    (v.each vector)))

module _ (bytes : List ℕ) (h : Header) (root : List DirectoryEntry) (has : HasSections bytes h) (dir : IsDirectory (section_bytes h.root bytes) root) where
  pub verified_found : (r : Result Report ArchiveFault) → IfOk r (IsVerified bytes h root) → IfOk r (IsSound bytes)
  verified_found (Ok report) v = sound bytes h root report has dir v
  verified_found (Err d) v = tt

  pub verified_only : (r : Result Report ArchiveFault) → IfOk r (IsVerified bytes h root) → IfErr r (UnlessOutside (VerifyingHas bytes h root))
      → (report : Report) → IsSound bytes report → MatchResult r (λ told. told ≡ report) IsOutside
  verified_only (Ok told) v fault report s = one_report bytes h root told report v (verified bytes h root report has dir s)
  verified_only (Err d) v fault report s =
      is_outside (VerifyingHas bytes h root) d fault (passes bytes h root report d (verified bytes h root report has dir s))
