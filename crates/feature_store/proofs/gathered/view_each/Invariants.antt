use Rattle.std.proofs.Common.{◌≡◌, map, take}
use Rattle.feature_store.specs.Chosen.{borrowed_data, found_data}
use Rattle.feature_store.proofs.gathered.view_each.Given as goal

abbrev pub invariant-loop-id : goal.invariant-loop-id
invariant-loop-id l = map found_data l.found.items ≡ map borrowed_data (take l.id-index l.stored)
