use Rattle.std.proofs.Common.{◌≡◌, ◌+◌, ◌<◌, ◌≤◌}
use Rattle.feature_model.specs.declared.limits.TheConstants.{NUMBER_END}
use Rattle.feature_store.proofs.moment_reader.MomentReader.step.Given as goal

abbrev pub invariant-loop : goal.invariant-loop
invariant-loop l = record {
  features : l.self.features ≡ l.initial.self.features;
  further : l.initial.self.from + l.counter ≤ l.self.from;
  within : 0 < l.counter → l.self.from ≤ NUMBER_END;
}
