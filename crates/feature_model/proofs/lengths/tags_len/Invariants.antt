use Rattle.std.proofs.Common.{◌≡◌, ◌+◌, ◌*◌, ◌≤◌, length, map, take}
use Rattle.std.specs.List.{flat_map}
use Rattle.feature_model.specs.Data.{tag_data}
use Rattle.feature_model.specs.Lengths.{tag_most}
use Rattle.feature_model.specs.Spelled.{spelled_tag}
use Rattle.feature_model.proofs.lengths.tags_len.Given as goal

abbrev pub invariant-loop-tag : goal.invariant-loop-tag
invariant-loop-tag l = (l.len ≡ 1 + length (flat_map spelled_tag (map tag_data (take l.tag-index l.tags)))) × (l.len ≤ 1 + tag_most * l.tag-index)
