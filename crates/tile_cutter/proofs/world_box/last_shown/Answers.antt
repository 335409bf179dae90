use Rattle.std.proofs.Common.{◌+◌, ◌-◌, ◌*◌, ◌^◌}
use Rattle.tile_cutter.specs.declared.coordinates.TheConstants.{EXTENT, MARGIN, WORLD_ZOOM}
use Rattle.tile_cutter.proofs.WorldBox.{capped_before}
use Rattle.tile_cutter.proofs.world_box.last_shown.Goals as goal

pub returns : goal.returns
returns c =
    capped_before ((EXTENT * c.args.at + (EXTENT + MARGIN + 1)) * 2 ^ (WORLD_ZOOM - c.args.zoom))
    c.scaled-after.result c.saturating_sub-last.result c.in_world.result c.scaled-after.ensures c.saturating_sub-last.ensures c.in_world.ensures
