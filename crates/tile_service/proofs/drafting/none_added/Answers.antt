use Rattle.area_content.proofs.Laws.{none_is_added}
use Rattle.tile_service.proofs.drafting.none_added.Goals as goal

pub returns : goal.returns
returns c m = none_is_added m
