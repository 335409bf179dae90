use Rattle.feature_store.proofs.Zooms.{none_begun}
use Rattle.feature_store.proofs.tiles_left.TilesLeft.new.Goals as goal

pub returns-clause-left : goal.returns-clause-left
returns-clause-left c m = none_begun m
