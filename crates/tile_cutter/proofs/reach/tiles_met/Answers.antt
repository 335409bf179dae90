use Rattle.std.proofs.Common.{Some, ap, ◌∙◌}
use Rattle.tile_cutter.specs.Widened.{range_of}
use Rattle.tile_cutter.proofs.Outside.{outside}
use Rattle.tile_cutter.proofs.WorldBox.{box_covered}
use Rattle.tile_cutter.proofs.reach.tiles_met.Goals as goal

pub returns-clause-covered : goal.returns-clause-covered
returns-clause-covered c = λ g is. c.range_of.ensures ∙ ap (λ b. range_of (Some b) c.args.zoom) is ∙ box_covered g c.args.zoom

pub returns-clause-nothing_outside : goal.returns-clause-nothing_outside
returns-clause-nothing_outside c = λ f column row is across down out.
    outside f c.args.zoom column row c.range_of.result (c.range_of.ensures ∙ ap (λ b. range_of (Some b) c.args.zoom) is ∙ box_covered f.geometry c.args.zoom)
    across down out
