use Rattle.std.proofs.Common.{map, ◌∙◌}
use Rattle.std.proofs.lemmas.Result.{on_ok_weaker}
use Rattle.edit_text.specs.Views.{tags_view}
use Rattle.tile_cutter.specs.Cut.{shown_tag}
use Rattle.feature_store.proofs.gathered.put_feature.Goals as goal

pub returns : goal.returns
returns c =
    on_ok_weaker c.put_feature.result
    (λ step name fs s start is.
    let tagged = c.in_ok-put_tags.ensures name fs start in
    step name fs (map shown_tag (tags_view c.args.feature.tags)) s tagged (c.deref.ensures.value ∙ is.packed.bytes) is.kind_is)
    c.put_feature.ensures.writes
