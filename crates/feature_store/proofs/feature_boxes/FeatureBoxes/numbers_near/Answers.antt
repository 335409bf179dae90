use Rattle.std.proofs.Common.{ap, ◌∙◌, List}
use Rattle.std.proofs.lemmas.Result.{IfOk-weaker}
use Rattle.box_index.specs.Shown.{ids_shown}
use Rattle.box_index.specs.declared.entry.IndexEntry.{IndexEntry}
use Rattle.feature_store.specs.Indexed.{index_entry}
use Rattle.feature_store.specs.Store.{FeatureMap}
use Rattle.std.proofs.Common.{map}
use Rattle.feature_store.proofs.Near.{near_shows}
use Rattle.feature_store.proofs.feature_boxes.FeatureBoxes.numbers_near.Goals as goal

pub returns : goal.returns
returns c =
    let at = c.args.at in
    let bounds = c.tile_box.result in
    let boxes = c.deref.ensures.value ∙ c.self.invariant ∙ ap (λ (m : FeatureMap). map index_entry m) c.self.view_is in
    IfOk-weaker c.numbers_shown.result _ _
    (λ numbers is. near_shows bounds at.z at.x at.y c.tile_box.ensures.nothing_apart c.args.self.now numbers.items c.requires.is_map
    (is ∙ ap (λ (es : List IndexEntry). ids_shown bounds at.z es) boxes)) c.numbers_shown.ensures
