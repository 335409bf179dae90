use Rattle.std.proofs.Common.{map}
use Rattle.feature_model.specs.Data.{tag_data}
use Rattle.feature_model.specs.Limits.{IsName, ValueFits}
use Rattle.feature_model.proofs.Mapped.{All-from_map, read_from_map}
use Rattle.feature_model.proofs.TextLengths.{length-tags_all}
use Rattle.feature_model.proofs.lengths.tags_len.Goals as goal

pub tag_len-len-requires-clause-key : goal.tag_len-len-requires-clause-key
tag_len-len-requires-clause-key c =
    read_from_map (λ t. IsName t.key) tag_data c.args.tags.now c.loop-tag.tag-index c.tag-item.result
    (All-from_map IsName (λ t. t.key) (map tag_data c.args.tags.now) c.requires.keys.names) c.loop-tag-test.true c.tag-item.is

pub tag_len-len-requires-clause-value : goal.tag_len-len-requires-clause-value
tag_len-len-requires-clause-value c =
    read_from_map (λ t. ValueFits t.value) tag_data c.args.tags.now c.loop-tag.tag-index c.tag-item.result c.requires.values c.loop-tag-test.true c.tag-item.is

pub returns-clause-exact : goal.returns-clause-exact
returns-clause-exact c = length-tags_all tag_data c.args.tags.now _ _ c.loop-tag-test.false c.loop-tag.invariant.0
