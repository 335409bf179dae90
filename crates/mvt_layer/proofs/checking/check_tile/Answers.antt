use Rattle.geometry_commands.proofs.Past.{ok_is, ok_on}
use Rattle.mvt_layer.specs.Reading.{tile_at}
use Rattle.mvt_layer.proofs.Checked.{tile_has_fault, tile_passes}
use Rattle.mvt_layer.proofs.TileLaws.{tile_says}
use Rattle.mvt_layer.proofs.checking.check_tile.Goals as goal

pub returns-clause-found : goal.returns-clause-found
returns-clause-found c =
    ok_on c.check_all.result (λ ok. let r = ok_is (tile_at c.args.bytes.now) ok in (r.0, tile_says c.args.bytes.now r.0 r.1)) c.check_all.ensures.found

pub returns-clause-only : goal.returns-clause-only
returns-clause-only c = tile_passes c.args.bytes.now c.check_all.result c.check_all.ensures.fault

pub returns-clause-fault : goal.returns-clause-fault
returns-clause-fault c = tile_has_fault c.args.bytes.now c.check_all.result c.check_all.ensures.fault
