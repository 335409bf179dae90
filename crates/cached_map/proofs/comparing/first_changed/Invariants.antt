use Rattle.std.proofs.Common.{map, take, All}
use Rattle.feature_model.specs.Seen.{seen_data}
use Rattle.cached_map.specs.Seen.{IsAsSeen}
use Rattle.cached_map.proofs.comparing.first_changed.Given as goal

abbrev pub invariant-loop-seen : goal.invariant-loop-seen
invariant-loop-seen l = All (IsAsSeen l.store.features) (map seen_data (take l.seen-index l.all))
