use Rattle.std.proofs.Common.{◌≡◌, ℕ, Vec, Global, sym, ap, subst, ◌∙◌}
use Rattle.std.specs.Prelude.{IfOk}
use Rattle.std.specs.Option.{option_map}
use Rattle.std.proofs.lemmas.Result.{IfOk-weaker}
use Rattle.feature_store.specs.Inside.{entries_data}
use Rattle.feature_store.specs.Content.{IsTileContent}
use Rattle.feature_store.specs.Indexed.{ShowsAll}
use Rattle.feature_store.specs.Layers.{layers}
use Rattle.feature_store.specs.Store.{FeatureMap, StoreView}
use Rattle.feature_store.specs.Tiles.{tile_bytes}
use Rattle.feature_store.proofs.Finished.{content_is}
use Rattle.feature_store.proofs.Unique.{outside, no_tile}
use Rattle.feature_store.proofs.store.Store.tile.Goals as goal

pub returns-then-at-gt-MAX_ZOOM-clause-bytes : goal.returns-then-at-gt-MAX_ZOOM-clause-bytes
returns-then-at-gt-MAX_ZOOM-clause-bytes c =
    let at = c.args.at in
    ap tile_bytes (sym (outside c.args.self.now.features at.z at.x at.y (no_tile at.z at.x at.y c.if-at-gt-MAX_ZOOM.true)))

pub returns-then-at-gt-MAX_ZOOM-clause-content : goal.returns-then-at-gt-MAX_ZOOM-clause-content
returns-then-at-gt-MAX_ZOOM-clause-content c =
    let at = c.args.at in
    outside c.args.self.now.features at.z at.x at.y (no_tile at.z at.x at.y c.if-at-gt-MAX_ZOOM.true)

pub tile_of_numbers-requires-clause-shown : goal.tile_of_numbers-requires-clause-shown
tile_of_numbers-requires-clause-shown c =
    let at = c.args.at in
    subst (λ (m : FeatureMap). ShowsAll m at.z at.x at.y c.in_ok-numbers.numbers.items)
    (ap (λ (s : StoreView). s.features) (sym c.self.view_is) ∙ sym c.of-now.ensures.features) c.in_ok-numbers.ensures

pub returns-clause-content : goal.returns-clause-content
returns-clause-content c =
    let at = c.args.at in
    let inside = entries_data c.self.inside.features.entries in
    let content : IfOk c.tile_of_numbers.result (λ o. IsTileContent (layers inside at.z at.x at.y) (option_map (λ (v : Vec ℕ Global). v.items) o)) =
    IfOk-weaker c.tile_of_numbers.result _ _
    (λ o is. content_is inside at.z at.x at.y (option_map (λ (v : Vec ℕ Global). v.items) o) c.self.invariant.is_map is)
    (subst (λ (m : FeatureMap). IfOk c.tile_of_numbers.result
    (λ o. option_map (λ (v : Vec ℕ Global). v.items) o ≡ tile_bytes (layers m at.z at.x at.y))) c.of-now.ensures.features c.tile_of_numbers.ensures) in
    subst (λ (s : StoreView). IfOk c.tile_of_numbers.result
    (λ o. IsTileContent (layers s.features at.z at.x at.y) (option_map (λ (v : Vec ℕ Global). v.items) o))) c.self.view_is content
