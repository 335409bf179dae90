-- The first fault of bytes that aren't a sound archive.
use Rattle.std.specs.Prelude.{ℕ, List}
use Rattle.pm_header.specs.declared.header.Header.{Header}
use Rattle.pm_directory.specs.declared.entry.DirectoryEntry.{DirectoryEntry}
use Rattle.pm_directory.specs.Directory.{IsDirectory}
use Rattle.pm_archive.specs.declared.fault.ArchiveFault.{ArchiveFault}
use Rattle.pm_archive.specs.Sections.{HasSections, section_bytes}
use Rattle.pm_archive.specs.Reading.{OpeningHas}
use Rattle.pm_verify.specs.Verified.{VerifyingHas}

-- the first fault of the bytes: one that prevents opening them, or one of the archive that is opened
pub data FirstFault (bytes : List ℕ) (d : ArchiveFault) : Type 0 where
  of_opening : OpeningHas bytes d → FirstFault bytes d
  of_archive : (h : Header) → (root : List DirectoryEntry) → HasSections bytes h → IsDirectory (section_bytes h.root bytes) root → VerifyingHas bytes h root d
      → FirstFault bytes d
