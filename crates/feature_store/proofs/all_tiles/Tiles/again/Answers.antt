use Rattle.std.proofs.Common.{ℕ, Option, Vec, Global, sym, ap, ◌∙◌}
use Rattle.std.specs.Option.{option_map}
use Rattle.feature_store.specs.Layers.{layers}
use Rattle.feature_store.specs.Store.{FeatureMap}
use Rattle.feature_store.specs.Tiles.{tile_bytes}
use Rattle.feature_store.proofs.Walk.{has_place, is_again, not_nothing, place_within, tile_found, zoom_within}
use Rattle.feature_store.proofs.all_tiles.Tiles.again.Goals as goal

pub unwrap-at-requires : goal.unwrap-at-requires
unwrap-at-requires c = c.tile_of.ensures.there.1 (place_within c.args.id (has_place c.args.self.now.features c.args.id c.requires.shown))

pub numbers_near-requires-clause-zoom : goal.numbers_near-requires-clause-zoom
numbers_near-requires-clause-zoom c =
    let at = c.unwrap-at.result in
    zoom_within at.z at.x at.y c.args.id (has_place c.args.self.now.features c.args.id c.requires.shown)
    (tile_found c.tile_of.result at c.args.id c.unwrap-at.ensures c.tile_of.ensures.tile)

pub tile_of_numbers-requires-clause-zoom : goal.tile_of_numbers-requires-clause-zoom
tile_of_numbers-requires-clause-zoom c =
    let at = c.unwrap-at.result in
    zoom_within at.z at.x at.y c.args.id (has_place c.args.self.now.features c.args.id c.requires.shown)
    (tile_found c.tile_of.result at c.args.id c.unwrap-at.ensures c.tile_of.ensures.tile)

pub unreachable-requires : goal.unreachable-requires
unreachable-requires c =
    let at = c.unwrap-at.result in
    let m = c.args.self.now.features in
    let bytes = option_map (λ (v : Vec ℕ Global). v.items) c.in_ok-bytes.bytes in
    let is = tile_found c.tile_of.result at c.args.id c.unwrap-at.ensures c.tile_of.ensures.tile in
    not_nothing m c.args.id c.requires.shown at.z at.x at.y bytes is
    (c.in_ok-bytes.ensures ∙ ap (λ (n : FeatureMap). tile_bytes (layers n at.z at.x at.y)) c.requires.same)
    (ap (λ (o : Option (Vec ℕ Global)). option_map (λ (v : Vec ℕ Global). v.items) o) c.in-None.is)

pub returns-clause-tile : goal.returns-clause-tile
returns-clause-tile c =
    let at = c.unwrap-at.result in
    let m = c.args.self.now.features in
    let is = tile_found c.tile_of.result at c.args.id c.unwrap-at.ensures c.tile_of.ensures.tile in
    is_again m c.args.id c.requires.shown at.z at.x at.y c.in-Some.bytes.items is
    (sym (ap (λ (o : Option (Vec ℕ Global)). option_map (λ (v : Vec ℕ Global). v.items) o) c.in-Some.is) ∙ c.in_ok-bytes.ensures
    ∙ ap (λ (n : FeatureMap). tile_bytes (layers n at.z at.x at.y)) c.requires.same)
