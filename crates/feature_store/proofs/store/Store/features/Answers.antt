use Rattle.feature_store.proofs.Entries.{entries_ascend}
use Rattle.feature_store.proofs.store.Store.features.Goals as goal

pub returns-clause-ascending : goal.returns-clause-ascending
returns-clause-ascending c = entries_ascend c.self.inside.features.entries c.self.invariant.is_map.ascending
