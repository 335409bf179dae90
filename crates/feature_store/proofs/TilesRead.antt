-- What is written for the layers of a tile of a map reads as these layers.
use Rattle.std.proofs.Common.{◌≡◌, ℕ, ◌*◌, ◌^◌, ◌<◌, ◌≤◌, Bool, true, false, List, [], length, refl, sym, ap, subst, arith}
use Rattle.std.proofs.lemmas.List.Elements.{All-nil}
use Rattle.std.proofs.lemmas.Bool.Decides.{nat_tests}
use Rattle.feature_model.specs.declared.limits.TheConstants.{MAX_ZOOM}
use Rattle.mvt_layer.specs.Tile.{LayerView}
use Rattle.mvt_layer.specs.Reads.{ReadsAs}
use Rattle.mvt_write.specs.CanWrite.{CanWriteLayer}
use Rattle.mvt_write.specs.Fits.{FitsLayer}
use Rattle.mvt_write.specs.Written.{written}
use Rattle.mvt_write.proofs.Laws.{written_reads}
use Rattle.mvt_write.proofs.Lengths.{length_written}
use Rattle.feature_store.specs.Layers.{is_tile, layers}
use Rattle.feature_store.specs.Store.{FeatureMap, IsMap, snapshot}
use Rattle.feature_store.proofs.Sizes.{written_in_snapshot}
use Rattle.feature_store.proofs.Writable.{layers_can, layers_keep}
use Rattle.feature_store.proofs.Unique.{the_list_is, outside}

-- a tile is one of the world
module _ (z x y : ℕ) (is : is_tile z x y ≡ true) where
  zoom_within : z ≤ MAX_ZOOM
  zoom_within = grind (arith, nat_tests)

  column_within : x < 2 ^ z
  column_within = grind (arith, nat_tests)

  row_within : y < 2 ^ z
  row_within = grind (arith, nat_tests)

none_reads : ReadsAs (written []) []
none_reads =
    written_reads [] (record { layers = All-nil CanWriteLayer; named = tt }) (All-nil FitsLayer) (omega (arith, length_written []))

pub tile_reads : (m : FeatureMap) (z x y : ℕ) → IsMap m → ReadsAs (written (layers m z x y)) (layers m z x y)
tile_reads m z x y is_map = by (is_tile z x y) refl
  where
    by : (b : Bool) → is_tile z x y ≡ b → ReadsAs (written (layers m z x y)) (layers m z x y)
    by false is = subst (λ (ls : List LayerView). ReadsAs (written ls) ls) (sym (outside m z x y is)) none_reads
    by true is =
        let ls = layers m z x y in
        let are = the_list_is m z x y is ls refl in
        let allowed = zoom_within z x y is in
        let across = column_within z x y is in
        let down = row_within z x y is in
        written_reads ls (layers_can z x y allowed across down m is_map ls are) (layers_keep z x y allowed across down m is_map ls are)
        (omega (arith, written_in_snapshot m z x y ls are, is_map.short))

pub tile_short : (m : FeatureMap) (z x y : ℕ) → length (written (layers m z x y)) ≤ 60 * length (snapshot m)
tile_short m z x y = by (is_tile z x y) refl
  where
    by : (b : Bool) → is_tile z x y ≡ b → length (written (layers m z x y)) ≤ 60 * length (snapshot m)
    by false is = omega (arith, length_written [], ap (λ (ls : List LayerView). length (written ls)) (outside m z x y is))
    by true is = written_in_snapshot m z x y (layers m z x y) (the_list_is m z x y is (layers m z x y) refl)
