-- From the contracts of an archive over a source to the verdict on it.
use Rattle.std.proofs.Common.{◌≡◌, ℕ, List, Result, Ok, Err, MatchResult, IfErr, inl, inr, ap}
use Rattle.pm_header.specs.declared.header.Header.{Header}
use Rattle.pm_directory.specs.declared.entry.DirectoryEntry.{DirectoryEntry}
use Rattle.pm_directory.specs.Directory.{IsDirectory}
use Rattle.pm_verify.specs.declared.report.Report.{Report}
use Rattle.pm_archive.specs.declared.fault.ArchiveFault.{ArchiveFault}
use Rattle.pm_archive.specs.declared.fault.ArchiveFault.TheVariants.{Read, Memory}
use Rattle.pm_archive.specs.Answers.{IsOutside, UnlessOutside}
use Rattle.pm_archive.specs.Sections.{HasSections, section_bytes}
use Rattle.pm_archive.specs.Reading.{OpeningHas}
use Rattle.pm_verify.specs.Verified.{IsSound, VerifyingHas}
use Rattle.archive_commands.specs.Faults.{FirstFault, of_opening, of_archive}

abbrev judged : ArchiveFault → Result Report ArchiveFault
judged d = Err d

pub same_fault : (c d : ArchiveFault) → judged c ≡ judged d → c ≡ d
same_fault c d e = cc

-- a fault outside of the bytes that is no failed read is out of memory
pub memory_from_outside : (d : ArchiveFault) → IsOutside d → (d ≡ Read → ⊥) → d ≡ Memory
memory_from_outside d h unread = elim h [ inl read ↦ absurd (unread read) | inr memory ↦ memory ]

pub UnlessOutside-weaker : (P Q : ArchiveFault → Type 0) (d : ArchiveFault) → ((e : ArchiveFault) → P e → Q e) → UnlessOutside P d → UnlessOutside Q d
UnlessOutside-weaker P Q d f h = λ inside. f d (h inside)

-- the opening of a sound archive fails only for a reason outside of it
pub only_at_opening : (bytes : List ℕ) (d : ArchiveFault)
    → ((h : Header) (root : List DirectoryEntry) → HasSections bytes h → IsDirectory (section_bytes h.root bytes) root → IsOutside d)
    → (report : Report) → IsSound bytes report → IsOutside d
only_at_opening bytes d only report sound = let root = sound.archive.entries in only sound.header root.0 sound.archive.sections root.1

pub only_at_judging : (report : Report) (r : Result Report ArchiveFault) → (r ≡ Err Read → ⊥) → MatchResult r (λ found. found ≡ report) IsOutside
    → MatchResult r (λ found. found ≡ report) (λ d. d ≡ Memory)
only_at_judging report (Ok found) unread h = h
only_at_judging report (Err d) unread h = memory_from_outside d h (λ e. unread (ap Err e))

pub fault_at_opening : (bytes : List ℕ) (d : ArchiveFault) → UnlessOutside (OpeningHas bytes) d → UnlessOutside (FirstFault bytes) d
fault_at_opening bytes d h = UnlessOutside-weaker (OpeningHas bytes) (FirstFault bytes) d (λ e has. of_opening has) h

pub fault_at_judging : (bytes : List ℕ) (h : Header) (root : List DirectoryEntry) → HasSections bytes h → IsDirectory (section_bytes h.root bytes) root
    → (r : Result Report ArchiveFault) → IfErr r (UnlessOutside (VerifyingHas bytes h root)) → IfErr r (UnlessOutside (FirstFault bytes))
fault_at_judging bytes h root sections directory (Ok found) has = has
fault_at_judging bytes h root sections directory (Err d) has =
    UnlessOutside-weaker (VerifyingHas bytes h root) (FirstFault bytes) d (λ e v. of_archive h root sections directory v) has
