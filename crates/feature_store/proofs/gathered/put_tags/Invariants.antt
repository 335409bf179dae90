use Rattle.std.proofs.Common.{ℕ, List}
use Rattle.std.specs.Prelude.{All}
use Rattle.feature_model.specs.Limits.{ValueFits}
use Rattle.edit_text.specs.Views.{tags_view}
use Rattle.mvt_layer.specs.Tile.{FeatureView}
use Rattle.feature_store.proofs.Gathers.{HasTags}
use Rattle.feature_store.proofs.gathered.put_tags.Given as goal

-- the tags so far, and those that are left
abbrev pub invariant-loop-tag : goal.invariant-loop-tag
invariant-loop-tag l = record {
  writes :
      (name : List ℕ) (fs : List FeatureView) → HasTags l.fn.writer l.writer name fs (tags_view l.tag-iterator) (tags_view l.tags);
  values : All (λ t. ValueFits t.value) (tags_view l.tag-iterator);
}
