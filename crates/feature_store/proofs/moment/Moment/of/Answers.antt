use Rattle.std.proofs.Common.{ap}
use Rattle.number_map.specs.MapView.{MapView}
use Rattle.feature_store.specs.Inside.{Stored, entries_data}
use Rattle.feature_store.proofs.Moments.{as_of_now}
use Rattle.feature_store.proofs.moment.Moment.of.Goals as goal

pub returns-clause-as_of : goal.returns-clause-as_of
returns-clause-as_of c =
    as_of_now _ (entries_data c.args.features.now.entries) c.requires (ap (λ (m : MapView Stored). entries_data m.entries) c.of.ensures) c.new.ensures
