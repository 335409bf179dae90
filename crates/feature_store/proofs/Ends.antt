-- The end of a tile in the making.
use Rattle.std.proofs.Common.{◌≡◌, ℕ, ◌<◌, List, [], ◌∷◌, ◌++◌, length, map, Some, None, refl, sym, ap, ◌∙◌, arith}
use Rattle.std.proofs.lemmas.List.{append-nil}
use Rattle.mvt_layer.specs.Tile.{LayerView}
use Rattle.mvt_write.specs.Written.{written}
use Rattle.mvt_write.proofs.LayerSteps.{written_some}
use Rattle.feature_store.specs.declared.tile_end.TileEnd.{TileEnd}
use Rattle.feature_store.specs.Ends.{Ends, end_work}
use Rattle.feature_store.specs.Gathered.{layer_of}
use Rattle.feature_store.specs.Layers.{cuts_of, layers}
use Rattle.feature_store.specs.Store.{FeatureMap}
use Rattle.feature_store.specs.Tiles.{tile_bytes}
use Rattle.feature_store.proofs.Listed.{no_entries}

-- no bytes are those of no layers
no_bytes : (ls : List LayerView) (bytes : List ℕ) → bytes ≡ written ls → length bytes ≡ 0 → None ≡ tile_bytes ls
no_bytes [] bytes is none = refl
no_bytes (l ∷ ls) bytes is none = absurd (omega (arith, none, ap length is, written_some l ls))

some_bytes : (ls : List LayerView) (bytes : List ℕ) → bytes ≡ written ls → 0 < length bytes → Some bytes ≡ tile_bytes ls
unfolding written
some_bytes [] bytes is some = absurd (omega (arith, some, ap length is))
some_bytes (l ∷ ls) bytes is some = ap (λ (bs : List ℕ). Some bs) is

-- once no layer is left, the bytes are those of all
module _ (m : FeatureMap) (z x y : ℕ) (e : TileEnd) (ends : Ends m z x y e) (over : end_work e ≡ 0) where
  all_layers : e.tile.bytes ≡ written (layers m z x y)
  unfolding written
  all_layers =
      let none : e.layers ≡ [] = no_entries e.layers (omega (arith, over)) in
      sym (append-nil e.tile.bytes) ∙ ap (λ es. e.tile.bytes ++ written (map (layer_of (λ name. cuts_of m name z x y)) es)) (sym none) ∙ ends.bytes

  pub ended_none : (bytes : List ℕ) → bytes ≡ e.tile.bytes → length bytes ≡ 0 → None ≡ tile_bytes (layers m z x y)
  ended_none bytes is none = no_bytes (layers m z x y) bytes (is ∙ all_layers) none

  pub ended_some : (bytes : List ℕ) → bytes ≡ e.tile.bytes → 0 < length bytes → Some bytes ≡ tile_bytes (layers m z x y)
  ended_some bytes is some = some_bytes (layers m z x y) bytes (is ∙ all_layers) some
