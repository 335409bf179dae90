-- Laws of directories, for the crates above.
use Rattle.std.proofs.Common.{◌≡◌, ℕ, List, sym, ◌∙◌}
use Rattle.reader.proofs.Steps.{same_value}
use Rattle.pm_directory.specs.declared.entry.DirectoryEntry.{DirectoryEntry}
use Rattle.pm_directory.specs.Directory.{IsDirectory}
use Rattle.pm_directory.proofs.DirectoryLaws.{directory_only}

-- bytes are a directory of at most one list of entries
pub one_directory : (bytes : List ℕ) (some others : List DirectoryEntry) → IsDirectory bytes some → IsDirectory bytes others → some ≡ others
one_directory bytes some others h g = same_value some others (sym (directory_only bytes some h) ∙ directory_only bytes others g)
