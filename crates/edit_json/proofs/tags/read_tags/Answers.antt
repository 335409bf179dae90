use Rattle.std.proofs.Common.{length, sym, ap, ◌∙◌, map, arith}
use Rattle.std.proofs.lemmas.List.{map-append}
use Rattle.std.proofs.lemmas.List.Elements.{All-push}
use Rattle.serde_json.specs.View.{view}
use Rattle.feature_model.specs.Data.{tag_data}
use Rattle.feature_model.specs.Types.{TagFitsTypes}
use Rattle.edit_json.specs.Tags.{tag_at}
use Rattle.edit_json.proofs.TagLemmas.{tags_more}
use Rattle.edit_json.proofs.tags.read_tags.Goals as goal

pub loop-key-preserved : goal.loop-key-preserved
loop-key-preserved c =
    let f = ap (λ t. tag_at t (view c.in-Some.value.now)) (sym c.as_str.ensures.value) ∙ c.in_ok-tag.ensures.tag in
    let e = tags_more (map tag_data c.loop-key.read.items) c.loop-key.key-iterator c.next.new.self c.in-Some.key.now c.in-Some.value.now
    (tag_data c.in_ok-tag.tag) c.in-Some.ensures.steps f in
    record {
      room = omega (
        arith,
        c.loop-key.invariant.room,
        ap length c.in-Some.ensures.steps,
        c.push_reserved.ensures.len,
        c.push_reserved.ensures.capacity,
      );
      tags = rw (c.push_reserved.ensures.items, map-append) (sym e ∙ c.loop-key.invariant.tags);
      types = rw (c.push_reserved.ensures.items, map-append) (All-push TagFitsTypes (map tag_data c.loop-key.read.items)
          (tag_data c.in_ok-tag.tag) c.loop-key.invariant.types c.in_ok-tag.ensures.types);
    }

pub push_reserved-requires : goal.push_reserved-requires
push_reserved-requires c = omega (arith, c.loop-key.invariant.room, ap length c.in-Some.ensures.steps)
