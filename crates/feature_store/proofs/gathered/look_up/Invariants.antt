use Rattle.std.proofs.Common.{◌≡◌, map, take}
use Rattle.feature_store.specs.Chosen.{chosen, borrowed_data}
use Rattle.feature_store.proofs.gathered.look_up.Given as goal

abbrev pub invariant-loop-number : goal.invariant-loop-number
invariant-loop-number l = map borrowed_data l.stored.items ≡ chosen l.moment.features (take l.number-index l.numbers)
