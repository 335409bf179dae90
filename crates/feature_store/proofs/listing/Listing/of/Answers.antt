use Rattle.std.proofs.Common.{sym, ap, ◌∙◌}
use Rattle.std.specs.Map.{keys_of}
use Rattle.feature_store.specs.Store.{FeatureMap}
use Rattle.feature_store.proofs.Reading.{none_below}
use Rattle.feature_store.proofs.listing.Listing.of.Goals as goal

pub returns-clause-listed : goal.returns-clause-listed
returns-clause-listed c = λ m.
    record { zoom = c.requires; numbers = c.in_ok-with_capacity.ensures.items ∙ sym (ap (λ (l : FeatureMap). keys_of l) (none_below m)) }
