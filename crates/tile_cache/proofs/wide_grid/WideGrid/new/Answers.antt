use Rattle.std.proofs.Common.{ℕ, List, replicate, [], subst, sym}
use Rattle.tile_cache.specs.Touched.{Remembers}
use Rattle.tile_cache.specs.declared.touch_grid.TheConstants.{WIDE_LEVELS, WIDE_CELLS}
use Rattle.tile_cache.proofs.Marks.{remembers_none, zeros}
use Rattle.tile_cache.proofs.wide_grid.WideGrid.new.Goals as goal

pub returns : goal.returns
returns c =
    subst (λ (xs : List ℕ). Remembers xs []) (sym (c.in_ok-vec.ensures.items_if_clones_equal (λ y same. same)))
    (remembers_none WIDE_LEVELS (replicate WIDE_CELLS 0) (zeros WIDE_CELLS))
