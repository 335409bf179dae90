-- How a moment is kept.
use Rattle.feature_store.specs.declared.moment.Moment.TheInside.{Inside}
use Rattle.feature_store.specs.Inside.{entries_data}
use Rattle.feature_store.specs.Moments.{MomentView}

-- the map then, which only clauses read, what numbers had, for how many more there is memory, and whether it is lost
abbrev pub moment_view : Inside → MomentView
moment_view t = record { features = entries_data t.features.value.entries; kept = t.kept.entries; spare = t.kept.spare; lost = t.lost }
