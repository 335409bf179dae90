use Rattle.std.proofs.Common.{◌≤◌, length, ◌≡◌, drop, map}
use Rattle.std.specs.Prelude.{vec_len, vec_capacity}
use Rattle.reader.specs.Reading.{folded}
use Rattle.mvt_layer.specs.Tile.{bytes_of, tag_views, feature_view}
use Rattle.mvt_layer.specs.Reading.{part_more, each_in, feature_at}
use Rattle.mvt_layer.proofs.layers.read_features.Given as goal

abbrev pub invariant-loop-part : goal.invariant-loop-part
invariant-loop-part l = record {
  len : vec_len l.features ≡ l.part-index;
  room : length l.raw ≤ vec_capacity l.features;
  read : folded (part_more (feature_at (bytes_of l.keys) (tag_views l.values))) (map feature_view l.features.items) (bytes_of (drop l.part-index l.raw))
      ≡ each_in (feature_at (bytes_of l.keys) (tag_views l.values)) (bytes_of l.raw);
}
