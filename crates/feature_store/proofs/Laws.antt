-- Laws of maps, their snapshots and their tiles, for the crates above.
use Rattle.std.proofs.Common.{◌≡◌, ◌+◌, ◌-◌, ◌*◌, ◌%◌, ◌^◌, ◌<◌, ◌≤◌, ℕ, true, false, List, [], length, Some, sym}
use Rattle.std.specs.Prelude.{◌↔◌}
use Rattle.feature_model.specs.Data.{FeatureData, ChangeData, put}
use Rattle.feature_model.specs.declared.limits.TheConstants.{MAX_EDIT_BYTES}
use Rattle.feature_model.specs.Spelled.{spelled_change}
use Rattle.feature_model.specs.Types.{IsChange}
use Rattle.mvt_layer.specs.Reads.{ReadsAs}
use Rattle.mvt_layer.specs.Tile.{LayerView}
use Rattle.mvt_write.specs.Written.{written}
use Rattle.feature_store.specs.declared.limit.TheConstants.{TEXTS_END}
use Rattle.feature_store.specs.Digests.{entry_hash, map_digest}
use Rattle.feature_store.specs.Layers.{AreLayers, is_tile, layers}
use Rattle.feature_store.specs.Store.{FeatureMap, IsMap, feature_at, with_feature, without_feature, changed, snapshot}
use Rattle.feature_store.proofs.DigestLemmas.{digest_set, digest_taken}
use Rattle.feature_store.proofs.Snapshots.{one_map, map_changed}
use Rattle.feature_store.proofs.Texts.{with_takes, without_takes, snapshot_short}
use Rattle.feature_store.proofs.TilesRead.{tile_reads, tile_short}
use Rattle.feature_store.proofs.Unique.{is_the_list, the_list_is, outside}

-- ---- the layers of a tile

-- The layers of a tile are the one list of which `AreLayers` is true.
pub layers_are : (m : FeatureMap) (z x y : ℕ) → is_tile z x y ≡ true → (ls : List LayerView) → AreLayers m z x y ls ↔ (ls ≡ layers m z x y)
layers_are m z x y is ls = (is_the_list m z x y is ls, the_list_is m z x y is ls)

-- Where the map has no such tile, there are none.
pub layers_outside : (m : FeatureMap) (z x y : ℕ) → is_tile z x y ≡ false → layers m z x y ≡ []
layers_outside = outside

-- What is written for the layers of a tile of a map reads as these layers.
pub written_layers_read : (m : FeatureMap) (z x y : ℕ) → IsMap m → ReadsAs (written (layers m z x y)) (layers m z x y)
written_layers_read = tile_reads

-- It has at most 60 times the bytes of the map's texts.
pub written_layers_short : (m : FeatureMap) (z x y : ℕ) → length (written (layers m z x y)) ≤ 60 * length (snapshot m)
written_layers_short = tile_short

-- ---- snapshots

-- A snapshot is that of one map and no other.
pub snapshot_of_one_map : (m n : FeatureMap) → IsMap m → IsMap n → snapshot m ≡ snapshot n → m ≡ n
snapshot_of_one_map m n is_m is_n = one_map m n is_m.edits is_n.edits

-- Each text of a map has at most `MAX_EDIT_BYTES`.
pub snapshot_of_many : (m : FeatureMap) → IsMap m → length (snapshot m) ≤ MAX_EDIT_BYTES * length m
snapshot_of_many m is_map = snapshot_short m is_map.edits

-- ---- edits

-- A map after an edit is a map, where its texts are short together.
pub map_after_change : (m : FeatureMap) (e : ChangeData) → IsMap m → IsChange e → length (snapshot (changed m e)) < TEXTS_END → IsMap (changed m e)
map_after_change = map_changed

-- The texts grow by the text of the edit at most.
pub snapshot_after_put : (m : FeatureMap) (id : ℕ) (f : FeatureData)
    → length (snapshot (with_feature m id f)) ≤ length (snapshot m) + length (spelled_change (put id f))
snapshot_after_put = with_takes

-- An edit that takes a feature away makes them no longer.
pub snapshot_after_delete : (m : FeatureMap) (id : ℕ) → length (snapshot (without_feature m id)) ≤ length (snapshot m)
snapshot_after_delete = without_takes

-- ---- digests

-- The digest of a map in which a number is given a feature: that of all others, and the hash of its text more.
pub digest_after_put : (m : FeatureMap) (id : ℕ) (f : FeatureData) → IsMap m
    → map_digest (with_feature m id f) ≡ (map_digest (without_feature m id) + entry_hash (id, f)) % 2 ^ 64
digest_after_put m id f is_map = digest_set m id f is_map.ascending

-- The digest of a map from which a number's feature is taken: less by the hash of its text.
pub digest_after_delete : (m : FeatureMap) (id : ℕ) (f : FeatureData) → feature_at m id ≡ Some f
    → map_digest (without_feature m id) ≡ (map_digest m + (2 ^ 64 - entry_hash (id, f))) % 2 ^ 64
digest_after_delete m id f found = sym (digest_taken m id f found)
