-- What a tile shows of a feature that keeps the limits can be written.
use Rattle.std.proofs.Common.{◌≡◌, ℕ, ◌≤◌, Bool, true, false, List, [], ◌∷◌, length, map, Option, Some, None, refl, sym, ap, ◌∙◌}
use Rattle.std.proofs.Common.{arith, if◌then◌else◌}
use Rattle.std.specs.Option.{option_map}
use Rattle.std.specs.Str.{bytes_eq}
use Rattle.std.specs.List.{cons_option}
use Rattle.std.proofs.lemmas.List.{length-map, length-append}
use Rattle.std.proofs.lemmas.List.Elements.{All-map, All-weaker}
use Rattle.feature_model.specs.Data.{FeatureData, TagData, ValueData, text_value, natural_value, negative_value, truth_value}
use Rattle.feature_model.specs.Limits.{IsAllowed, ValueFits}
use Rattle.geometry_commands.specs.Shapes.{ShapeView}
use Rattle.geometry_commands.specs.Encodable.{CanSpell}
use Rattle.mvt_layer.specs.Tile.{FeatureView}
use Rattle.mvt_write.specs.CanWrite.{CanWriteValue, CanWriteFeature}
use Rattle.mvt_write.specs.Written.{tags_of}
use Rattle.tile_cutter.specs.Cut.{feature_cut, geometry_cut, shown_with, shown_tag, shown_value}
use Rattle.feature_store.specs.Layers.{numbered_cut, cut_for, cuts_of}
use Rattle.feature_store.specs.Store.{FeatureMap}
use Rattle.feature_store.proofs.Texts.{all_tags}

tags_of_shape : (tags : List TagData) (b : Bool) (o : Option ShapeView) (v : FeatureView) → (if b then option_map (shown_with tags) o else None) ≡ Some v
    → v.tags ≡ map shown_tag tags
tags_of_shape tags false o v h = cc
tags_of_shape tags true None v h = cc
tags_of_shape tags true (Some s) v h = let same : shown_with tags s ≡ v = cc in sym (ap (λ (f : FeatureView). f.tags) same)

-- the tags of what is shown are the feature's
pub tags_shown : (f : FeatureData) (z x y : ℕ) (v : FeatureView) → feature_cut f z x y ≡ Some v → v.tags ≡ map shown_tag f.tags
unfolding feature_cut
tags_shown f z x y v h = tags_of_shape f.tags _ (geometry_cut z x y f.geometry) v h

value_writable : (v : ValueData) → ValueFits v → CanWriteValue (shown_value v)
value_writable (text_value t) h = tt
value_writable (natural_value n) h = tt
value_writable (negative_value z) h = h
value_writable (truth_value b) h = tt

keys_shown : (tags : List TagData) → map (λ t. t.0) (map shown_tag tags) ≡ map (λ t. t.key) tags
keys_shown [] = refl
keys_shown (t ∷ tags) = ap (λ ks. t.key ∷ ks) (keys_shown tags)

-- with its number, it can be written
pub writable : (id : ℕ) (f : FeatureData) (z x y : ℕ) (v : FeatureView) → IsAllowed id f → feature_cut f z x y ≡ Some v → CanSpell v.shape
    → CanWriteFeature (record v { id = Some id })
writable id f z x y v allowed cut spelled = record {
  id = refl;
  values = rw (tags_shown f z x y v cut)
      (All-map (λ t. CanWriteValue t.1) shown_tag f.tags
      (All-weaker (λ t. ValueFits t.value) (λ t. CanWriteValue (shown_value t.value)) (λ t. value_writable t.value) f.tags allowed.feature.values));
  keys = rw (tags_shown f z x y v cut, keys_shown f.tags) allowed.feature.tags.ascending;
  shape = spelled;
}

-- ---- how many tags are shown

-- what a tile shows of a feature has as many tags as the feature
as_many_tags : (z x y : ℕ) (e : ℕ × FeatureData) (o : Option FeatureView) (v : FeatureView)
    → feature_cut e.1 z x y ≡ o → option_map (λ (f : FeatureView). record f { id = Some e.0 }) o ≡ Some v → length v.tags ≡ length e.1.tags
as_many_tags z x y e None v cut is = cc
as_many_tags z x y e (Some w) v cut is =
    let same : record w { id = Some e.0 } ≡ v = cc in
    ap (λ (f : FeatureView). length f.tags) (sym same) ∙ ap length (tags_shown e.1 z x y w cut) ∙ length-map e.1.tags shown_tag

cut_for_tags : (name : List ℕ) (z x y : ℕ) (e : ℕ × FeatureData) (b : Bool) (v : FeatureView)
    → (if b then numbered_cut z x y e else None) ≡ Some v → length v.tags ≡ length e.1.tags
cut_for_tags name z x y e true v is = as_many_tags z x y e (feature_cut e.1 z x y) v refl is
cut_for_tags name z x y e false v is = cc

-- the tags of what a tile shows of a layer are not more than those of the map
pub tags_in_cuts : (m : FeatureMap) (name : List ℕ) (z x y : ℕ) → length (tags_of (cuts_of m name z x y)) ≤ length (all_tags m)
tags_in_cuts [] name z x y = omega arith
tags_in_cuts (e ∷ m) name z x y = by (cut_for name z x y e) refl (tags_in_cuts m name z x y)
  where
    by : (o : Option FeatureView) → cut_for name z x y e ≡ o → length (tags_of (cuts_of m name z x y)) ≤ length (all_tags m)
        → length (tags_of (cons_option o (cuts_of m name z x y))) ≤ length (all_tags (e ∷ m))
    by None is less = omega (arith, length-append e.1.tags (all_tags m))
    by (Some v) is less =
        omega (
          arith,
          length-append e.1.tags (all_tags m),
          length-append v.tags (tags_of (cuts_of m name z x y)),
          cut_for_tags name z x y e (bytes_eq e.1.layer name) v is,
        )
