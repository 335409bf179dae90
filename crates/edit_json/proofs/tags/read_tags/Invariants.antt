use Rattle.std.proofs.Common.{◌≡◌, ◌+◌, ◌≤◌, length, map, All}
use Rattle.std.specs.Prelude.{vec_len, vec_capacity}
use Rattle.serde_json.specs.View.{members_view}
use Rattle.feature_model.specs.Data.{tag_data}
use Rattle.feature_model.specs.Types.{TagFitsTypes}
use Rattle.edit_json.specs.Tags.{tags_at}
use Rattle.edit_json.proofs.TagLemmas.{rest_gives}
use Rattle.edit_json.proofs.tags.read_tags.Given as goal

abbrev pub invariant-loop-key : goal.invariant-loop-key
invariant-loop-key l = record {
  room : vec_len l.read + length l.key-iterator ≤ vec_capacity l.read;
  tags : rest_gives (map tag_data l.read.items) l.key-iterator ≡ tags_at (members_view l.tags.entries);
  types : All TagFitsTypes (map tag_data l.read.items);
}
