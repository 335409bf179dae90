use Rattle.std.proofs.Common.{◌-◌, ◌*◌, ◌^◌, min, ap, ◌∙◌}
use Rattle.tile_cutter.specs.declared.coordinates.TheConstants.{EXTENT, MARGIN, WORLD_ZOOM}
use Rattle.tile_cutter.proofs.WorldBox.{capped}
use Rattle.tile_cutter.proofs.world_box.first_shown.Goals as goal

pub returns : goal.returns
returns c =
    capped ((EXTENT * c.args.at - MARGIN) * 2 ^ (WORLD_ZOOM - c.args.zoom)) c.scaled-first.result c.in_world.result
    (c.scaled-first.ensures ∙ ap (λ n. min (n * 2 ^ (WORLD_ZOOM - c.args.zoom)) (2 ^ 64 - 1)) c.saturating_sub-start.ensures) c.in_world.ensures
