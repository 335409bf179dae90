use Rattle.std.proofs.Common.{◌≡◌}
use Rattle.cached_map.proofs.cached_map.is_left_after.Given as goal

abbrev pub invariant-loop-part : goal.invariant-loop-part
invariant-loop-part l = l.hand.features ≡ l.store.features
