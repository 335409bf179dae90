use Rattle.std.proofs.Common.{◌≡◌, map}
use Rattle.std.specs.Prelude.{◌↔◌}
use Rattle.feature_model.specs.Data.{tag_data}
use Rattle.edit_text.specs.Views.{tags_view}
use Rattle.edit_text.proofs.same.are_tags.Given as goal

-- those that are left are the same where all are
abbrev pub invariant-loop-tag : goal.invariant-loop-tag
invariant-loop-tag l = (tags_view l.tag-iterator ≡ map tag_data l.left) ↔ (tags_view l.tags ≡ map tag_data l.owned)
