use Rattle.std.proofs.Common.{◌∙◌}
use Rattle.tile_cache.specs.declared.touch_grid.TheConstants.{WIDE_LEVELS}
use Rattle.tile_cache.proofs.Marks.{newest_of}
use Rattle.tile_cache.proofs.wide_grid.WideGrid.newest.Goals as goal

pub returns : goal.returns
returns c =
    let of_shown = rw c.shown_by.ensures at c.newest_of.ensures in
    let of_cells = rw (c.deref.ensures.value ∙ c.self.view_is) at of_shown in record {
      marked = λ marks before. newest_of WIDE_LEVELS c.args.self.now marks c.args.at.z c.args.at.x c.args.at.y c.newest_of.result of_cells before;
      of_cells = of_cells;
    }
