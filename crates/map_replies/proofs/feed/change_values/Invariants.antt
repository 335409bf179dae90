use Rattle.std.proofs.Common.{◌≤◌, ◌≡◌, map, take, length}
use Rattle.std.specs.Prelude.{vec_len, vec_capacity}
use Rattle.serde_json.specs.View.{view}
use Rattle.map_replies.proofs.FeedLemmas.{values_of}
use Rattle.map_replies.proofs.feed.change_values.Given as goal

abbrev pub invariant-loop-change : goal.invariant-loop-change
invariant-loop-change l = record {
  len : vec_len l.all ≡ l.change-index;
  room : length l.changes ≤ vec_capacity l.all;
  done : map view l.all.items ≡ values_of (take l.change-index l.changes);
}
