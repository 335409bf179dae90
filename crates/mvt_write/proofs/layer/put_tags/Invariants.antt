use Rattle.std.proofs.Common.{List, ℕ, [], take}
use Rattle.std.specs.Prelude.{All}
use Rattle.mvt_layer.specs.Tile.{FeatureView, tagged}
use Rattle.mvt_write.specs.Fits.{FitsTag}
use Rattle.mvt_write.specs.Writes.{Writes}
use Rattle.mvt_write.proofs.layer.put_tags.Given as goal

abbrev pub invariant-loop-key : goal.invariant-loop-key
invariant-loop-key l = record {
  writes : (name : List ℕ) (fs : List FeatureView) → Writes l.fn.writer name fs [] → Writes l.writer name fs (tagged (take l.key-index l.tags));
  fits : All FitsTag (tagged (take l.key-index l.tags));
}
