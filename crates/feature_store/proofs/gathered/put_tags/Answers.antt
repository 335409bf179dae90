use Rattle.std.proofs.Common.{◌∷◌, [], ◌++◌, subst}
use Rattle.feature_model.specs.Limits.{ValueFits}
use Rattle.edit_text.specs.Views.{tag_view, tags_view}
use Rattle.mvt_write.specs.Writes.{Writes}
use Rattle.tile_cutter.proofs.Each.{rest_keeps}
use Rattle.feature_store.proofs.Gathers.{tags_item, tags_over}
use Rattle.feature_store.proofs.gathered.put_tags.Goals as goal

pub loop-tag-preserved : goal.loop-tag-preserved
loop-tag-preserved c =
    let tag = tag_view c.in-Some.tag in
    let left = tags_view c.loop-tag.tag-iterator in
    let rest = tags_view c.next.new.self in
    let first = c.in-Some.ensures.steps in
    record {
      writes = λ name fs.
          tags_item c.args.writer.now c.loop-tag.writer c.put_tag.new.self name fs left rest (tags_view c.args.tags) tag first
          (λ tags before. subst (λ v. Writes c.put_tag.new.self name fs (tags ++ (tag.key, v) ∷ [])) c.shown_value.ensures
          (c.in_ok-put_tag.ensures.writes name fs tags before))
          (c.loop-tag.invariant.writes name fs);
      values = rest_keeps (λ t. ValueFits t.value) left rest tag first c.loop-tag.invariant.values;
    }

pub returns : goal.returns
returns c = λ name fs.
    tags_over c.args.writer.now c.loop-tag.writer name fs (tags_view c.loop-tag.tag-iterator) (tags_view c.args.tags) c.in-None.ensures.steps.0
    (c.loop-tag.invariant.writes name fs)
