use Rattle.std.proofs.Common.{ap, ◌∙◌}
use Rattle.edit_text.specs.Views.{geometry_view}
use Rattle.tile_cutter.specs.Widened.{box_or_origin}
use Rattle.tile_cutter.proofs.WorldBox.{bounding_box_is}
use Rattle.tile_cutter.proofs.text_box.bounding_box.Goals as goal

pub returns : goal.returns
returns c = c.or_origin.ensures ∙ ap box_or_origin c.bounds_of_text-bounds.ensures ∙ bounding_box_is (geometry_view c.args.feature.geometry)
