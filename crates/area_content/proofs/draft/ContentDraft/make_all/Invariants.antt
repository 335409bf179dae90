use Rattle.std.proofs.Common.{◌≡◌}
use Rattle.area_content.specs.declared.draft.Stage.TheVariants.{Going}
use Rattle.area_content.proofs.draft.ContentDraft.make_all.Given as goal

abbrev pub invariant-loop-fault : goal.invariant-loop-fault
invariant-loop-fault l = record {
  stage : l.self.stage ≡ Going;
  features : l.self.features ≡ l.initial.self.features;
  metadata : l.self.metadata ≡ l.initial.self.metadata;
  area : l.self.area ≡ l.initial.self.area;
}

abbrev pub decreases-loop-fault : goal.decreases-loop-fault
decreases-loop-fault l = l.self.ahead
