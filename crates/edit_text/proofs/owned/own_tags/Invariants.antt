use Rattle.std.proofs.Common.{◌+◌, ◌≤◌, length, ◌≡◌, ◌++◌, map}
use Rattle.std.specs.Prelude.{vec_len, vec_capacity}
use Rattle.feature_model.specs.Data.{tag_data}
use Rattle.edit_text.specs.Views.{tags_view}
use Rattle.edit_text.proofs.owned.own_tags.Given as goal

-- those that are owned, and those that are left, for which there is room
abbrev pub invariant-loop-tag : goal.invariant-loop-tag
invariant-loop-tag l = record {
  room : vec_len l.owned + length (tags_view l.tag-iterator) ≤ vec_capacity l.owned;
  done : map tag_data l.owned.items ++ tags_view l.tag-iterator ≡ tags_view l.fn.tags;
}
