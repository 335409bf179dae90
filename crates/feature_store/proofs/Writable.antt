-- The layers of a tile of a map can be written, and keep what their types promise.
use Rattle.std.proofs.Common.{◌≡◌, ℕ, ◌^◌, ◌<◌, ◌≤◌, pos, negsuc, Bool, true, false, List, [], ◌∷◌, length, map, Option, Some, None, All, refl, sym, ap, subst}
use Rattle.std.proofs.Common.{arith, if◌then◌else◌}
use Rattle.std.specs.Option.{option_map}
use Rattle.std.specs.Str.{IsUtf8, bytes_eq}
use Rattle.std.specs.List.{cons_option}
use Rattle.std.proofs.lemmas.Int.{ints}
use Rattle.std.proofs.lemmas.List.Elements.{All-nil, All-cons, All-head, All-tail, All-map, All-weaker}
use Rattle.std.proofs.lemmas.Slice.Eq.{bytes_eq-Decides}
use Rattle.feature_model.specs.Data.{FeatureData, TagData, ValueData, text_value, natural_value, negative_value, truth_value, put}
use Rattle.feature_model.specs.Types.{IsChange, ValueFitsTypes, TagFitsTypes}
use Rattle.feature_model.specs.declared.limits.TheConstants.{MAX_ZOOM}
use Rattle.geometry_commands.specs.Encodable.{CanSpell, FitsShape}
use Rattle.geometry_commands.proofs.Laws.{spelled_is}
use Rattle.mvt_layer.specs.Tile.{FeatureView, LayerView}
use Rattle.mvt_write.specs.CanWrite.{CanWriteFeature, CanWriteLayer, CanWriteAll}
use Rattle.mvt_write.specs.Fits.{FitsValue, FitsTag, FitsFeature, FitsLayer}
use Rattle.mvt_write.specs.Written.{tags_of}
use Rattle.mvt_write.proofs.Integers.{integers_small}
use Rattle.mvt_write.proofs.Names.{ascending_differ}
use Rattle.tile_cutter.specs.Cut.{shown_value, shown_tag, feature_cut}
use Rattle.tile_cutter.proofs.Shown.{feature_shown}
use Rattle.feature_store.specs.Layers.{numbered_cut, cuts_of, IsLayer, AreLayers}
use Rattle.feature_store.specs.Snapshots.{IsEditOf}
use Rattle.feature_store.specs.Store.{FeatureMap, IsMap}
use Rattle.feature_store.proofs.Shown.{writable, tags_shown, tags_in_cuts}
use Rattle.feature_store.proofs.Texts.{tags_in_snapshot}

-- ---- what the types of a feature promise

value_keeps : (v : ValueData) → ValueFitsTypes v → FitsValue (shown_value v)
value_keeps (text_value bytes) h = h
value_keeps (natural_value n) h = h
value_keeps (negative_value (pos n)) h = omega (arith, ints, h)
value_keeps (negative_value (negsuc n)) h = omega (arith, ints, h)
value_keeps (truth_value b) h = tt

tags_keep : (tags : List TagData) → All TagFitsTypes tags → All FitsTag (map shown_tag tags)
tags_keep tags all =
    All-map FitsTag shown_tag tags
    (All-weaker TagFitsTypes (λ t. FitsTag (shown_tag t)) (λ t fits. record { key = fits.key; value = value_keeps t.value fits.value }) tags all)

-- with its number, what is shown of an edit's feature keeps it
kept : (id : ℕ) (f : FeatureData) (z x y : ℕ) (v : FeatureView) → IsChange (put id f) → feature_cut f z x y ≡ Some v → CanSpell v.shape × FitsShape v.shape
    → FitsFeature (record v { id = Some id })
kept id f z x y v edit cut spelled_change = record {
  id = omega (arith, edit.0.number);
  tags = subst (All FitsTag) (sym (tags_shown f z x y v cut)) (tags_keep f.tags edit.1.tags);
  integers = integers_small v.shape spelled_change.0;
  shape = spelled_is v.shape spelled_change.0 spelled_change.1;
}

-- ---- the cuts of a layer

module _ (z x y : ℕ) where
  -- what holds of all that is shown of entries holds of the cuts of a layer
  all_cuts : (P : FeatureView → Type 0) → ((e : ℕ × FeatureData) (v : FeatureView) → IsEditOf e → feature_cut e.1 z x y ≡ Some v
      → P (record v { id = Some e.0 }))
      → (name : List ℕ) (m : FeatureMap) → All IsEditOf m → All P (cuts_of m name z x y)
  all_cuts P each name [] all = All-nil P
  all_cuts P each name (e ∷ m) all = by (bytes_eq e.1.layer name) (feature_cut e.1 z x y) refl (all_cuts P each name m (All-tail IsEditOf e m all))
    where
      by : (b : Bool) (o : Option FeatureView) → feature_cut e.1 z x y ≡ o → All P (cuts_of m name z x y)
          → All P (cons_option (if b then option_map (λ (f : FeatureView). record f { id = Some e.0 }) o else None) (cuts_of m name z x y))
      by false o is rest = rest
      by true None is rest = rest
      by true (Some v) is rest = All-cons P (record v { id = Some e.0 }) (cuts_of m name z x y) (each e v (All-head IsEditOf e m all) is) rest

  -- a name with cuts is that of a feature
  name_is_text : (name : List ℕ) (m : FeatureMap) → All IsEditOf m → 0 < length (cuts_of m name z x y) → IsUtf8 name
  name_is_text name [] all some = absurd (omega arith)
  name_is_text name (e ∷ m) all some = by (bytes_eq e.1.layer name) refl some (name_is_text name m (All-tail IsEditOf e m all))
    where
      by : (b : Bool) → bytes_eq e.1.layer name ≡ b
          → 0 < length (cons_option (if b then numbered_cut z x y e else None) (cuts_of m name z x y))
          → (0 < length (cuts_of m name z x y) → IsUtf8 name) → IsUtf8 name
      by true same some rest = subst IsUtf8 ((bytes_eq-Decides e.1.layer name).0 same) (All-head IsEditOf e m all).1.layer
      by false differs some rest = rest some

  module _ (allowed : z ≤ MAX_ZOOM) (across : x < 2 ^ z) (down : y < 2 ^ z) (m : FeatureMap) (is_map : IsMap m) where
    spelled_change : (e : ℕ × FeatureData) (v : FeatureView) → IsEditOf e → feature_cut e.1 z x y ≡ Some v → CanSpell v.shape × FitsShape v.shape
    spelled_change e v edit cut = feature_shown e.1 z x y v allowed across down edit.0.feature.geometry edit.1.geometry cut

    cuts_can : (name : List ℕ) → All CanWriteFeature (cuts_of m name z x y)
    cuts_can name = all_cuts CanWriteFeature (λ e v edit cut. writable e.0 e.1 z x y v edit.0 cut (spelled_change e v edit cut).0) name m is_map.edits

    cuts_keep : (name : List ℕ) → All FitsFeature (cuts_of m name z x y)
    cuts_keep name = all_cuts FitsFeature (λ e v edit cut. kept e.0 e.1 z x y v edit cut (spelled_change e v edit cut)) name m is_map.edits

    -- ---- layers

    layer_can : (l : LayerView) → IsLayer m z x y l → CanWriteLayer l
    layer_can l is = record {
      extent = is.extent;
      version = is.version;
      features = subst (All CanWriteFeature) (sym is.cuts) (cuts_can l.name);
      few = omega (arith, ap (λ fs. length (tags_of fs)) is.cuts, tags_in_cuts m l.name z x y, tags_in_snapshot m is_map.edits, is_map.short);
    }

    layer_keeps : (l : LayerView) → IsLayer m z x y l → FitsLayer l
    layer_keeps l is = record {
      name = name_is_text l.name m is_map.edits (subst (λ fs. 0 < length fs) is.cuts is.some);
      features = subst (All FitsFeature) (sym is.cuts) (cuts_keep l.name);
    }

    pub layers_can : (ls : List LayerView) → AreLayers m z x y ls → CanWriteAll ls
    layers_can ls are = record { layers = All-weaker (IsLayer m z x y) CanWriteLayer layer_can ls are.layers; named = ascending_differ ls are.ascending }

    pub layers_keep : (ls : List LayerView) → AreLayers m z x y ls → All FitsLayer ls
    layers_keep ls are = All-weaker (IsLayer m z x y) FitsLayer layer_keeps ls are.layers
