use Rattle.pm_build.proofs.Storing.{none_stored}
use Rattle.pm_build.proofs.Words.{none_known}
use Rattle.pm_build.proofs.contents.Contents.with_capacity.Goals as goal

pub invariant_of-result : goal.invariant_of-result
invariant_of-result c = record { stored = none_stored c.new.result _ c.new.ensures; hashed = none_known _ c.none.result c.none.ensures }
