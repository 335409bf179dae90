use Rattle.tile_cache.proofs.touch_grid.TouchGrid.stale.Goals as goal

pub returns : goal.returns
returns c = rw c.self.view_is at c.count_above.ensures
