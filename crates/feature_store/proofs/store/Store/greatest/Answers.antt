use Rattle.std.proofs.Common.{◌∙◌}
use Rattle.feature_store.proofs.Entries.{greatest_found}
use Rattle.feature_store.proofs.store.Store.greatest.Goals as goal

pub returns : goal.returns
returns c = rw (← c.self.view_is) (c.last_number.ensures.last ∙ greatest_found c.self.inside.features.entries)
