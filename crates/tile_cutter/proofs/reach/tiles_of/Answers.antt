use Rattle.std.proofs.Common.{arith}
use Rattle.tile_cutter.proofs.Zooms.{tiles_low}
use Rattle.tile_cutter.proofs.reach.tiles_of.Goals as goal

pub returns-clause-bound : goal.returns-clause-bound
returns-clause-bound c =
    tiles_low c.saturating_sub-columns.result c.saturating_sub-rows.result
    (omega (arith, c.saturating_sub-columns.ensures, c.requires.columns)) (omega (arith, c.saturating_sub-rows.ensures, c.requires.rows))
