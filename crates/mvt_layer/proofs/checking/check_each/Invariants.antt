use Rattle.std.proofs.Common.{◌≡◌, List, drop}
use Rattle.reader.specs.Reading.{folded}
use Rattle.mvt_layer.specs.Tile.{bytes_of, tag_views, FeatureView}
use Rattle.mvt_layer.specs.Reading.{part_more, each_in, feature_at}
use Rattle.mvt_layer.proofs.checking.check_each.Given as goal

-- there are features after which the other parts are
abbrev pub invariant-loop-part : goal.invariant-loop-part
invariant-loop-part l = (before : List FeatureView)
    × (folded (part_more (feature_at (bytes_of l.keys) (tag_views l.values))) before (bytes_of (drop l.part-index l.raw))
    ≡ each_in (feature_at (bytes_of l.keys) (tag_views l.values)) (bytes_of l.raw))
