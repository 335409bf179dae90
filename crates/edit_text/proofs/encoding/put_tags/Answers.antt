use Rattle.std.proofs.Common.{map, ap}
use Rattle.feature_model.specs.Data.{tag_data}
use Rattle.feature_model.specs.Limits.{IsName, ValueFits}
use Rattle.feature_model.specs.Spelled.{spelled_tag}
use Rattle.feature_model.proofs.Mapped.{All-from_map, read_from_map}
use Rattle.feature_model.specs.Types.{TagFitsTypes}
use Rattle.edit_text.proofs.Texts.{IsPut-more, tags_all, types_all}
use Rattle.edit_text.proofs.encoding.put_tags.Goals as goal

pub put_tag-requires-clause-key : goal.put_tag-requires-clause-key
put_tag-requires-clause-key c =
    read_from_map (λ t. IsName t.key) tag_data c.args.tags.now c.loop-tag.tag-index c.tag-item.result
    (All-from_map IsName (λ t. t.key) (map tag_data c.args.tags.now) c.requires.keys.names) c.loop-tag-test.true c.tag-item.is

pub put_tag-requires-clause-value : goal.put_tag-requires-clause-value
put_tag-requires-clause-value c =
    read_from_map (λ t. ValueFits t.value) tag_data c.args.tags.now c.loop-tag.tag-index c.tag-item.result c.requires.values c.loop-tag-test.true c.tag-item.is

pub loop-tag-preserved : goal.loop-tag-preserved
loop-tag-preserved c = IsPut-more spelled_tag TagFitsTypes tag_data c.args.tags.now c.loop-tag.tag-index c.tag-item.result _ _ _ _ c.loop-tag-test.true
    c.loop-tag.invariant (ap tag_data c.tag-item.is) c.in_ok-put_tag.ensures.text c.in_ok-put_tag.ensures.types

pub returns-clause-text : goal.returns-clause-text
returns-clause-text c = tags_all TagFitsTypes tag_data c.args.tags.now c.loop-tag.tag-index _ _ _ c.loop-tag-test.false c.in_ok-push.ensures.items
    c.loop-tag.invariant

pub returns-clause-types : goal.returns-clause-types
returns-clause-types c = types_all spelled_tag TagFitsTypes tag_data c.args.tags.now c.loop-tag.tag-index _ _ c.loop-tag-test.false c.loop-tag.invariant
