use Rattle.std.proofs.Common.{◌≤◌, length, ◌≡◌, drop}
use Rattle.std.specs.Prelude.{vec_len, vec_capacity}
use Rattle.reader.specs.Reading.{folded}
use Rattle.mvt_layer.specs.Tile.{bytes_of}
use Rattle.mvt_layer.specs.Reading.{part_more, each_in, text_at}
use Rattle.mvt_layer.proofs.layers.texts_of.Given as goal

abbrev pub invariant-loop-part : goal.invariant-loop-part
invariant-loop-part l = record {
  len : vec_len l.texts ≡ l.part-index;
  room : length l.raw ≤ vec_capacity l.texts;
  read : folded (part_more (text_at)) (bytes_of l.texts.items) (bytes_of (drop l.part-index l.raw)) ≡ each_in (text_at) (bytes_of l.raw);
}
