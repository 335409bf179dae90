-- The contents that an archive has of tile ids.
use Rattle.std.specs.Prelude.{◌≡◌, ℕ, List, Option, Some, None}
use Rattle.pm_header.specs.declared.header.Header.{Header}
use Rattle.pm_directory.specs.declared.entry.DirectoryEntry.{DirectoryEntry}
use Rattle.pm_archive.specs.Sections.{HasSections}
use Rattle.pm_archive.specs.Entries.{HasEntries, entry_of, entry_bytes}

-- the content of an entry, if there is one
abbrev pub content_of_entry : List ℕ → Header → Option DirectoryEntry → Option (List ℕ)
content_of_entry bytes h None = None
content_of_entry bytes h (Some e) = Some (entry_bytes h.tiles e bytes)

-- the content of a tile id in an archive with these entries
abbrev pub content_of : List ℕ → Header → List DirectoryEntry → ℕ → Option (List ℕ)
content_of bytes h tiles id = content_of_entry bytes h (entry_of tiles id)

-- the bytes have sections and directories, and exactly these contents of tile ids by them; an archive does (`pm_metadata`)
abbrev pub HasContents : List ℕ → (ℕ → Option (List ℕ)) → Type 0
HasContents bytes content = (h : Header) × (tiles : List DirectoryEntry) × HasSections bytes h × HasEntries bytes h tiles
    × ((id : ℕ) → content id ≡ content_of bytes h tiles id)
