-- The reader finds the contents of an archive.
use Rattle.std.proofs.Common.{ℕ, List, Option}
use Rattle.pm_archive.specs.Archive.{HasContents}
use Rattle.pm_metadata.specs.Archive.{IsArchiveOf}

-- an archive of these contents has them by its directories
pub has_contents : (bytes : List ℕ) (content : ℕ → Option (List ℕ)) → IsArchiveOf bytes content → HasContents bytes content
has_contents bytes content archive = (archive.0, archive.1, archive.2.sections, archive.2.entries, archive.3)
