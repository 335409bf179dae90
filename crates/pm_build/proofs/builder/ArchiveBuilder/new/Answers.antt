use Rattle.std.proofs.Common.{refl, ap}
use Rattle.pm_build.specs.Storing.{ContentsView}
use Rattle.pm_build.proofs.Keeping.{none_kept}
use Rattle.pm_build.proofs.builder.ArchiveBuilder.new.Goals as goal

pub invariant_of-result : goal.invariant_of-result
invariant_of-result c = none_kept _ _ _ (ap (λ (v : ContentsView). v.index) c.new-2.ensures) c.new.ensures.items refl
