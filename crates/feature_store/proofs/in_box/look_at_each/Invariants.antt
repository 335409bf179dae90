use Rattle.std.proofs.Common.{◌≡◌, length}
use Rattle.std.specs.Map.{keys_of}
use Rattle.feature_store.specs.InBox.{in_box}
use Rattle.feature_store.specs.Store.{FeatureMap}
use Rattle.feature_store.proofs.Looked.{Continues}
use Rattle.feature_store.proofs.in_box.look_at_each.Given as goal

-- the features that are looked at so far
abbrev pub invariant-loop : goal.invariant-loop
invariant-loop l = (done : FeatureMap) × Continues l.store.features l.id done l.from × (l.numbers.items ≡ keys_of (in_box l.bounds done))
    × (length done ≡ l.counter)
