-- Archives, with their counts and their metadata.
use Rattle.std.specs.Prelude.{◌≡◌, ℕ, ◌⊎◌, List, length, Option, Some, IsUtf8}
use Rattle.serde_json.specs.Data.{Members, object}
use Rattle.serde_json.specs.Read.{read}
use Rattle.pm_header.specs.declared.header.Header.{Header}
use Rattle.pm_directory.specs.declared.entry.DirectoryEntry.{DirectoryEntry}
use Rattle.pm_directory.specs.Counts.{addressed_by, contents_of}
use Rattle.pm_archive.specs.Sections.{section_bytes, HasSections}
use Rattle.pm_archive.specs.Entries.{HasEntries}
use Rattle.pm_archive.specs.Archive.{content_of}

-- the bytes are a JSON text of an object
abbrev pub IsMetadata : List ℕ → Type 0
IsMetadata bytes = IsUtf8 bytes × ((members : Members) × (read bytes ≡ Some (object members)))

-- ---- counts

-- a count of the header: 0 says that it isn't known
abbrev pub Says : ℕ → ℕ → Type 0
Says said n = (said ≡ 0) ⊎ (said ≡ n)

pub record HasCounts (h : Header) (tiles : List DirectoryEntry) : Type 0 where
  pub addressed : Says h.addressed (addressed_by tiles)
  pub entries : Says h.entries (length tiles)
  pub contents : Says h.contents (contents_of tiles)

-- ---- archives

-- the bytes are an archive with this header and these tile entries, in ascending order
pub record IsArchive (bytes : List ℕ) (h : Header) (tiles : List DirectoryEntry) : Type 0 where
  pub sections : HasSections bytes h
  pub entries : HasEntries bytes h tiles
  pub counts : HasCounts h tiles
  pub metadata : IsMetadata (section_bytes h.metadata bytes)

-- the bytes are an archive of exactly these contents of tile ids
abbrev pub IsArchiveOf : List ℕ → (ℕ → Option (List ℕ)) → Type 0
IsArchiveOf bytes content = (h : Header) × (tiles : List DirectoryEntry) × IsArchive bytes h tiles × ((id : ℕ) → content id ≡ content_of bytes h tiles id)
