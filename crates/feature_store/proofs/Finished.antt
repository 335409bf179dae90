-- What is gathered as the bytes of a tile.
use Rattle.std.proofs.Common.{◌≡◌, ℕ, ◌<◌, true, List, [], ◌∷◌, ◌++◌, length, map, Option, Some, None, All, refl, sym, ap, ◌∙◌, arith}
use Rattle.std.specs.List.Sorted.{IsStrictlySortedBy}
use Rattle.std.proofs.lemmas.List.{length-map}
use Rattle.std.proofs.lemmas.List.Elements.{All-head, All-tail}
use Rattle.mvt_layer.specs.Reads.{ReadsAs}
use Rattle.mvt_layer.specs.Tile.{FeatureView, LayerView}
use Rattle.mvt_write.specs.Written.{written}
use Rattle.feature_store.specs.Content.{IsTileContent}
use Rattle.feature_store.specs.Gathered.{Gathered, Gathers, layer_of, layers_of}
use Rattle.feature_store.specs.Layers.{cuts_of, is_tile, layers}
use Rattle.feature_store.specs.Store.{FeatureMap, IsMap}
use Rattle.feature_store.specs.Tiles.{tile_bytes}
use Rattle.feature_store.proofs.Listed.{IsAscending, are_layers}
use Rattle.feature_store.proofs.TilesRead.{tile_reads}
use Rattle.feature_store.proofs.Unique.{is_the_list}
use Rattle.feature_store.proofs.Walk.{some_written}

-- what holds of all holds of the first that is left
pub all_here : {X : Type 0} (P : X → Type 0) (done : List X) (x : X) (rest : List X) → All P (done ++ x ∷ rest) → P x
all_here P [] x rest all = All-head P x rest all
all_here P (d ∷ done) x rest all = all_here P done x rest (All-tail P d (done ++ x ∷ rest) all)

-- the bytes of the layers of what is gathered, where something is
pub bytes_of_some : (m : FeatureMap) (z x y : ℕ) (g : Gathered) (bytes : List ℕ) → is_tile z x y ≡ true → Gathers g (λ name. cuts_of m name z x y)
    → IsAscending g → 0 < length g.entries → bytes ≡ written (layers_of (λ name. cuts_of m name z x y) g) → Some bytes ≡ tile_bytes (layers m z x y)
bytes_of_some m z x y g bytes here gathers ordered some is =
    let fs : List ℕ → List FeatureView = λ name. cuts_of m name z x y in
    some_written m (layers_of fs g) bytes (omega (arith, some, length-map g.entries (layer_of fs))) is
    ∙ ap tile_bytes (is_the_list m z x y here (layers_of fs g) (are_layers m z x y g gathers ordered))

-- and where nothing is
pub bytes_of_none : (m : FeatureMap) (z x y : ℕ) (g : Gathered) → is_tile z x y ≡ true → Gathers g (λ name. cuts_of m name z x y) → g.entries ≡ []
    → None ≡ tile_bytes (layers m z x y)
unfolding IsStrictlySortedBy
bytes_of_none m z x y g here gathers none =
    let fs : List ℕ → List FeatureView = λ name. cuts_of m name z x y in
    let ordered : IsAscending g = rw none tt in
    ap tile_bytes (ap (map (layer_of fs)) (sym none) ∙ is_the_list m z x y here (layers_of fs g) (are_layers m z x y g gathers ordered))

-- ---- as the content of a tile

content_of : (ls : List LayerView) (bytes : Option (List ℕ)) → ReadsAs (written ls) ls → bytes ≡ tile_bytes ls → IsTileContent ls bytes
content_of [] bytes reads is = rw is refl
content_of (l ∷ ls) bytes reads is = rw is (omega arith, reads)

-- the bytes of a tile's layers are its content
pub content_is : (m : FeatureMap) (z x y : ℕ) (bytes : Option (List ℕ)) → IsMap m → bytes ≡ tile_bytes (layers m z x y)
    → IsTileContent (layers m z x y) bytes
content_is m z x y bytes is_map is = content_of (layers m z x y) bytes (tile_reads m z x y is_map) is
