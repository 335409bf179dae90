use Rattle.std.proofs.Common.{◌≤◌, length, ◌≡◌, drop}
use Rattle.std.specs.Prelude.{vec_len, vec_capacity}
use Rattle.reader.specs.Reading.{folded}
use Rattle.mvt_layer.specs.Tile.{bytes_of, tag_views}
use Rattle.mvt_layer.specs.Reading.{part_more, each_in, tag_value_at}
use Rattle.mvt_layer.proofs.layers.tag_values_of.Given as goal

abbrev pub invariant-loop-part : goal.invariant-loop-part
invariant-loop-part l = record {
  len : vec_len l.values ≡ l.part-index;
  room : length l.raw ≤ vec_capacity l.values;
  read : folded (part_more (tag_value_at)) (tag_views l.values.items) (bytes_of (drop l.part-index l.raw)) ≡ each_in (tag_value_at) (bytes_of l.raw);
}
