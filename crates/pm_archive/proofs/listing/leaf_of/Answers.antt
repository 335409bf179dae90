use Rattle.std.proofs.Common.{rules}
use Rattle.pm_archive.specs.Reading.{leaf_at}
use Rattle.pm_archive.proofs.listing.leaf_of.Goals as goal

pub returns-in_err-entries-clause-leaf : goal.returns-in_err-entries-clause-leaf
unfolding leaf_at
returns-in_err-entries-clause-leaf g c = search rules

pub returns-in_err-check_between-clause-leaf : goal.returns-in_err-check_between-clause-leaf
unfolding leaf_at
returns-in_err-check_between-clause-leaf g c = search rules

pub returns-clause-leaf : goal.returns-clause-leaf
unfolding leaf_at
returns-clause-leaf g c = search rules
