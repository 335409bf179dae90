use Rattle.std.proofs.Common.{arith}
use Rattle.tile_cutter.proofs.Kept.{quantised_below}
use Rattle.tile_cutter.proofs.coordinates.quantise.Goals as goal

pub returns-clause-bound : goal.returns-clause-bound
returns-clause-bound c = quantised_below c.args.zoom c.args.coordinate c.requires (omega (arith, c.ranges.coordinate.fits))
