use Rattle.std.proofs.Common.{◌≤◌, ◌+◌}
use Rattle.feature_model.specs.declared.limits.TheConstants.{NUMBER_END}
use Rattle.feature_store.specs.Reading.{below}
use Rattle.map_metadata.specs.Summaries.{SumsUp}
use Rattle.map_metadata.proofs.draft.add_from.Given as goal

abbrev pub invariant-loop : goal.invariant-loop
invariant-loop l = record {
  further : l.from + l.counter ≤ l.end;
  within : l.end ≤ NUMBER_END;
  sums : SumsUp l.initial.layers (below l.from l.moment.features) → SumsUp l.layers (below l.end l.moment.features);
}
