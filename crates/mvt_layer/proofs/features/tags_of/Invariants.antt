use Rattle.std.proofs.Common.{◌+◌, ◌*◌, ◌≤◌, length, []}
use Rattle.std.specs.Prelude.{vec_len, vec_capacity}
use Rattle.mvt_layer.specs.Tile.{bytes_of, tag_views, tagged}
use Rattle.mvt_layer.specs.Reading.{tags_at}
use Rattle.mvt_layer.proofs.Tags.{TagsSoFar}
use Rattle.mvt_layer.proofs.features.tags_of.Given as goal

abbrev pub invariant-loop-rest : goal.invariant-loop-rest
invariant-loop-rest l = record {
  room : 2 * vec_len l.tags + length l.rest ≤ 2 * vec_capacity l.tags + 1;
  read : TagsSoFar (bytes_of l.keys) (tag_views l.values) l.used (tagged l.tags.items) l.rest (tags_at (bytes_of l.keys) (tag_views l.values) [] [] l.indices);
}

abbrev pub decreases-loop-rest : goal.decreases-loop-rest
decreases-loop-rest l = length l.rest
