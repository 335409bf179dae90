use Rattle.std.proofs.Common.{◌∙◌}
use Rattle.tile_cache.proofs.wide_grid.WideGrid.stale.Goals as goal

pub returns : goal.returns
returns c = rw (c.deref.ensures.value ∙ c.self.view_is) at c.count_above.ensures
