use Rattle.std.proofs.Common.{◌≡◌}
use Rattle.cached_map.proofs.cached_map.finish_tile.Given as goal

abbrev pub invariant-loop-hand : goal.invariant-loop-hand
invariant-loop-hand l = record {
  map : l.hand.features ≡ l.store.features;
  at : l.hand.at ≡ l.fn.hand.at;
}

abbrev pub decreases-loop-hand : goal.decreases-loop-hand
decreases-loop-hand l = l.hand.left
