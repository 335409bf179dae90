use Rattle.std.proofs.Common.{List, ℕ, [], map, take}
use Rattle.std.specs.Prelude.{All}
use Rattle.mvt_layer.specs.Tile.{feature_view}
use Rattle.mvt_write.specs.Fits.{FitsFeature}
use Rattle.mvt_write.specs.Writes.{Writes}
use Rattle.mvt_write.proofs.layer.put_features.Given as goal

abbrev pub invariant-loop-feature : goal.invariant-loop-feature
invariant-loop-feature l = record {
  writes : (name : List ℕ) → Writes l.fn.writer name [] [] → Writes l.writer name (map feature_view (take l.feature-index l.features)) [];
  fits : All FitsFeature (map feature_view (take l.feature-index l.features));
}
