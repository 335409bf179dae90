use Rattle.std.proofs.Common.{◌≡◌, ◌++◌, map}
use Rattle.serde_json.specs.View.{members_view}
use Rattle.edit_text.specs.Views.{tag_view, tags_view}
use Rattle.edit_json.specs.Json.{tags_json}
use Rattle.edit_json.proofs.writer.tags_value.Given as goal

-- those that are written, and those that are left
abbrev pub invariant-loop-tag : goal.invariant-loop-tag
invariant-loop-tag l = record {
  parts : map tag_view l.yielded ++ tags_view l.tag-iterator ≡ tags_view l.tags;
  members : members_view l.members.entries ≡ tags_json (map tag_view l.yielded);
}
