use Rattle.std.proofs.Common.{◌≡◌, ℕ, Vec, Global, sym, ap, subst, ◌∙◌}
use Rattle.std.specs.Prelude.{IfOk}
use Rattle.std.specs.Option.{option_map}
use Rattle.std.proofs.lemmas.Result.{IfOk-weaker}
use Rattle.hilbert_id.specs.declared.tile_at.TileAt.{TileAt}
use Rattle.feature_store.specs.Content.{IsTileContent}
use Rattle.feature_store.specs.Hand.{HandView}
use Rattle.feature_store.specs.Inside.{entries_data}
use Rattle.feature_store.specs.Layers.{layers}
use Rattle.feature_store.specs.Stages.{IsStage, stage_at}
use Rattle.feature_store.specs.Store.{FeatureMap}
use Rattle.feature_store.specs.declared.stage.Stage.{Stage}
use Rattle.feature_store.proofs.Finished.{content_is}
use Rattle.feature_store.proofs.store.Store.finish_tile.Goals as goal

pub returns-clause-content : goal.returns-clause-content
returns-clause-content c =
    let hand = c.hand.inside in
    let parts = c.in-Parts.parts in
    let m = entries_data hand.features.value.entries in
    let at = parts.at in
    let same : m ≡ c.args.self.now.features = ap (λ (h : HandView). h.features) c.hand.view_is ∙ c.requires.map in
    let here : at ≡ c.args.hand.at = sym (ap stage_at c.in-Parts.is) ∙ ap (λ (h : HandView). h.at) c.hand.view_is in
    let made = subst (λ (s : Stage). IsStage m s) c.in-Parts.is c.hand.invariant.stage in
    let content : IfOk c.written.result (λ o. IsTileContent (layers m at.z at.x at.y) (option_map (λ (v : Vec ℕ Global). v.items) o)) =
    IfOk-weaker c.written.result _ _ (λ o is. content_is m at.z at.x at.y (option_map (λ (v : Vec ℕ Global). v.items) o) c.hand.invariant.is_map
    (is m c.hand.invariant.is_map made.1)) c.written.ensures in
    subst (λ (n : FeatureMap). IfOk c.written.result (λ o. IsTileContent (layers n c.args.hand.at.z c.args.hand.at.x c.args.hand.at.y)
    (option_map (λ (v : Vec ℕ Global). v.items) o))) same
    (subst (λ (t : TileAt). IfOk c.written.result (λ o. IsTileContent (layers m t.z t.x t.y) (option_map (λ (v : Vec ℕ Global). v.items) o)))
    here content)
