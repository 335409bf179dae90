use Rattle.std.proofs.Common.{rules}
use Rattle.pm_archive.specs.Reading.{directory_of_entry}
use Rattle.pm_archive.proofs.reading.directory_of.Goals as goal

pub returns-in_err-offset-clause-directory : goal.returns-in_err-offset-clause-directory
unfolding directory_of_entry
returns-in_err-offset-clause-directory g c = search rules

pub returns-clause-directory : goal.returns-clause-directory
unfolding directory_of_entry
returns-clause-directory g c = search rules
