-- Archives that were opened over a source of bytes.
use Rattle.std.specs.Prelude.{List}
use Rattle.pm_header.specs.declared.header.Header.{Header}
use Rattle.pm_directory.specs.declared.entry.DirectoryEntry.{DirectoryEntry}

-- an archive that was opened, as contracts see it: its source, its header and the entries of its root directory
pub record ArchiveView (S : Type 0) : Type 0 where
  pub source : S
  pub header : Header
  pub root : List DirectoryEntry
