use Rattle.std.proofs.Common.{refl, ap, ◌∙◌, map}
use Rattle.serde_json.specs.Data.{object}
use Rattle.serde_json.specs.View.{members_view}
use Rattle.serde_json.proofs.Views.{view-Object}
use Rattle.edit_text.specs.Views.{value_view, tag_view, tags_view}
use Rattle.edit_json.specs.Json.{value_json, tags_json}
use Rattle.edit_json.proofs.WriteLemmas.{value_there, parts_next, parts_over, put_next}
use Rattle.edit_json.proofs.writer.tags_value.Goals as goal

pub tag_value-requires : goal.tag_value-requires
tag_value-requires c =
    value_there (map tag_view c.loop-tag.yielded) (tags_view c.next.new.self) (tags_view c.loop-tag.tag-iterator) (tags_view c.args.tags)
    (tag_view c.in-Some.tag) c.in-Some.ensures.steps c.loop-tag.invariant.parts c.requires.values

pub loop-tag-preserved : goal.loop-tag-preserved
loop-tag-preserved c = record {
  parts =
      parts_next c.loop-tag.yielded c.in-Some.tag (tags_view c.next.new.self) (tags_view c.loop-tag.tag-iterator) (tags_view c.args.tags)
      c.in-Some.ensures.steps c.loop-tag.invariant.parts;
  members =
      put_next c.loop-tag.yielded c.in-Some.tag (tags_view c.next.new.self) (tags_view c.loop-tag.tag-iterator) (tags_view c.args.tags)
      (value_json (value_view c.in-Some.tag.value)) (members_view c.loop-tag.members.entries) (members_view c.put_made.new.members.entries)
      c.in-Some.ensures.steps c.loop-tag.invariant.parts c.requires.ascending refl c.loop-tag.invariant.members
      (c.in_ok-put_made.ensures _ c.tag_value.ensures);
}

pub returns : goal.returns
returns c =
    view-Object c.loop-tag.members
    ∙ ap object (c.loop-tag.invariant.members ∙ ap tags_json (parts_over (map tag_view c.loop-tag.yielded) (tags_view c.loop-tag.tag-iterator)
    (tags_view c.args.tags) c.in-None.ensures.steps.0 c.loop-tag.invariant.parts))
