-- An archive of vector tiles is one of its contents.
use Rattle.std.proofs.Common.{ℕ, List, Option}
use Rattle.pm_metadata.specs.Archive.{IsArchiveOf}
use Rattle.pm_build.specs.Vector.{IsVectorArchive}

pub archive_of_contents : (bytes metadata : List ℕ) (content : ℕ → Option (List ℕ)) → IsVectorArchive bytes metadata content → IsArchiveOf bytes content
archive_of_contents bytes metadata content is = (is.header, is.entries, is.is_archive, is.contents)
