-- A layer that is written, step by step.
use Rattle.std.proofs.Common.{◌≡◌, ℕ, ◌+◌, ◌%◌, ◌/◌, Bool, true, false, cond, ltb, List, [], ◌∷◌, ◌++◌, length, map}
use Rattle.std.proofs.Common.{refl, sym, ap, ap₂, ◌∙◌, append_assoc, append-nil}
use Rattle.std.specs.Prelude.{Option}
use Rattle.std.specs.List.{flat_map}
use Rattle.std.proofs.lemmas.List.{map-append, flat_map_more}
use Rattle.pb_wire.specs.Varint.{varint, shortest_in}
use Rattle.geometry_commands.specs.declared.kinds.ShapeKind.{ShapeKind}
use Rattle.geometry_commands.specs.Shapes.{ShapeView, points, lines, rings, raw, kind_of, shape_spelled}
use Rattle.mvt_layer.specs.declared.layers.TheConstants.{CURRENT_VERSION, DEFAULT_EXTENT}
use Rattle.mvt_layer.specs.Tile.{Tagged, FeatureView, LayerView}
use Rattle.mvt_write.specs.declared.layer_writer.LayerWriter.{LayerWriter}
use Rattle.mvt_write.specs.Held.{held_keys, held_values}
use Rattle.mvt_write.specs.Parts.{type_of, message_of}
use Rattle.mvt_write.specs.Pools.{pool_of, with_entry, index_of}
use Rattle.mvt_write.specs.Writes.{Writes, features_written, layer_of}
use Rattle.mvt_write.specs.Written.{number_field, bytes_field, id_written, value_written, kind_number, tag_indices, tags_written, feature_written}
use Rattle.mvt_write.specs.Written.{keys_used, values_used, tags_of, layer_with, layer_written}
use Rattle.mvt_write.proofs.Pooled.{pool_of-push}
use Rattle.mvt_write.proofs.TagSteps.{later, indices_more}

-- no tags and no features
pub starts : (w : LayerWriter) (name : List ℕ) → held_keys w.pools.value ≡ [] → held_values w.pools.value ≡ []
    → w.tags.items ≡ [] → w.bytes.items ≡ bytes_field 1 name
    → Writes w name [] []
unfolding pool_of
starts w name keys values tags bytes = record {
  keys = keys;
  values = values;
  indices = λ ks vs. tags;
  bytes = λ ks vs. bytes ∙ sym (append-nil (bytes_field 1 name));
}

-- ---- one tag more

-- the pool of the tags so far, and of one more
pooled_more : (part : Tagged → List ℕ) (pool after : List (List ℕ)) (before tags : List Tagged) (t : Tagged) → pool ≡ pool_of (map part (before ++ tags))
    → after ≡ with_entry pool (part t) → after ≡ pool_of (map part (before ++ (tags ++ t ∷ [])))
pooled_more part pool after before tags t is step =
    let uses : map part (before ++ (tags ++ t ∷ [])) ≡ map part (before ++ tags) ++ part t ∷ [] = ap (λ (ts : List Tagged). map part ts)
    (sym (append_assoc before tags (t ∷ []))) ∙ map-append part (before ++ tags) (t ∷ []) in
    step ∙ ap (λ (p : List (List ℕ)). with_entry p (part t)) is ∙ sym (pool_of-push (map part (before ++ tags)) (part t)) ∙ ap pool_of (sym uses)

pub tag_added : (old new : LayerWriter) (name : List ℕ) (fs : List FeatureView) (tags : List Tagged) (t : Tagged) → Writes old name fs tags
    → held_keys new.pools.value ≡ with_entry (held_keys old.pools.value) t.0
    → held_values new.pools.value ≡ with_entry (held_values old.pools.value) (value_written t.1)
    → new.tags.items
    ≡ old.tags.items ++ (varint (index_of (held_keys new.pools.value) t.0) ++ varint (index_of (held_values new.pools.value) (value_written t.1)))
    → new.bytes.items ≡ old.bytes.items → Writes new name fs (tags ++ t ∷ [])
tag_added old new name fs tags t before by_key by_value by_indices same =
    let keys = held_keys old.pools.value in
    let values = held_values old.pools.value in
    record {
      keys = pooled_more (λ u. u.0) keys (held_keys new.pools.value) (tags_of fs) tags t before.keys by_key;
      values = pooled_more (λ u. value_written u.1) values (held_values new.pools.value) (tags_of fs) tags t before.values by_value;
      indices =
          indices_more keys (held_keys new.pools.value) values (held_values new.pools.value) tags (tags ++ t ∷ []) t old.tags.items new.tags.items
          before.indices by_key
          by_value by_indices refl;
      bytes = λ ks vs.
          let k = later keys (held_keys new.pools.value) t.0 ks by_key in
          let v = later values (held_values new.pools.value) (value_written t.1) vs by_value in
          same ∙ before.bytes k.0 v.0 ∙ rw (← k.1, ← v.1) refl;
    }

-- ---- one feature more

varint_by : (b : Bool) (n m : ℕ) (rest xs : List ℕ) → [] ≡ cond b (n ∷ []) (m ∷ rest) ++ xs → ⊥
varint_by true n m rest xs e = absurd (cc)
varint_by false n m rest xs e = absurd (cc)

-- a number takes a byte at least
varint_some : (n : ℕ) (xs : List ℕ) → [] ≡ varint n ++ xs → ⊥
unfolding varint shortest_in
varint_some n xs e = varint_by (ltb n 128) n (128 + n % 128) (shortest_in 8 (n / 128)) xs e

type_is : (s : ShapeView) → type_of (kind_of s) ≡ kind_number s
type_is (points ps) = refl
type_is (lines ls) = refl
type_is (rings ls) = refl
type_is (raw ns) = refl

bare_regrouped : (id number key len geometry : List ℕ)
    → id ++ ([] ++ ((number ++ (key ++ len)) ++ geometry)) ≡ id ++ ([] ++ (number ++ (key ++ (len ++ geometry))))
bare_regrouped id number key len geometry = simp append_assoc

tagged_regrouped : (id head_key head_len tags number key len geometry : List ℕ)
    → (id ++ (head_key ++ head_len)) ++ (tags ++ ((number ++ (key ++ len)) ++ geometry))
    ≡ id ++ ((head_key ++ (head_len ++ tags)) ++ (number ++ (key ++ (len ++ geometry))))
tagged_regrouped id head_key head_len tags number key len geometry = simp append_assoc

-- the field of tags, and what comes before and after it
message_by : (keys values : List (List ℕ)) (id : Option ℕ) (tags : List Tagged) (packed : List ℕ) (kind : ShapeKind) (geometry : List ℕ)
    → packed ≡ flat_map varint (tag_indices keys values tags)
    → message_of id packed kind geometry
    ≡ id_written id ++ (tags_written keys values tags ++ (number_field 3 (type_of kind) ++ bytes_field 4 geometry))
message_by keys values id [] [] kind geometry is =
    bare_regrouped (id_written id) (number_field 3 (type_of kind)) (varint 34) (varint (length geometry)) geometry
message_by keys values id [] (b ∷ bs) kind geometry is = absurd (cc)
message_by keys values id (t ∷ ts) [] kind geometry is =
    absurd (varint_some (index_of keys t.0) (flat_map varint (index_of values (value_written t.1) ∷ tag_indices keys values ts)) is)
message_by keys values id (t ∷ ts) (b ∷ bs) kind geometry is =
    tagged_regrouped (id_written id) (varint 18) (varint (length (b ∷ bs))) (b ∷ bs) (number_field 3 (type_of kind)) (varint 34)
    (varint (length geometry)) geometry
    ∙ ap (λ (p : List ℕ). id_written id ++ (bytes_field 2 p ++ (number_field 3 (type_of kind) ++ bytes_field 4 geometry))) is

message_is : (keys values : List (List ℕ)) (id : Option ℕ) (tags : List Tagged) (s : ShapeView) (packed : List ℕ) (kind : ShapeKind) (geometry : List ℕ)
    → packed ≡ flat_map varint (tag_indices keys values tags) → geometry ≡ flat_map varint (shape_spelled s) → kind ≡ kind_of s
    → message_of id packed kind geometry ≡ feature_written keys values (record { id = id; tags = tags; shape = s })
unfolding feature_written
message_is keys values id tags s packed kind geometry by_tags by_shape by_kind =
    message_by keys values id tags packed kind geometry by_tags ∙ rw (by_kind, by_shape, type_is s) refl

-- the pool of the tags of the features, once the last tags are those of a feature
pooled_ended : (part : Tagged → List ℕ) (pool : List (List ℕ)) (fs : List FeatureView) (f : FeatureView) → pool ≡ pool_of (map part (tags_of fs ++ f.tags))
    → pool ≡ pool_of (map part (tags_of (fs ++ f ∷ []) ++ []))
pooled_ended part pool fs f is =
    let tags : tags_of (fs ++ f ∷ []) ++ [] ≡ tags_of fs ++ f.tags = append-nil (tags_of (fs ++ f ∷ [])) ∙ sym (flat_map_more (λ g. g.tags) [] fs f) in
    is ∙ ap (λ (ts : List Tagged). pool_of (map part ts)) (sym tags)

pub feature_added : (old new : LayerWriter) (name : List ℕ) (fs : List FeatureView) (tags : List Tagged) (id : Option ℕ) (s : ShapeView) (kind : ShapeKind)
    (geometry : List ℕ) → Writes old name fs tags → geometry ≡ flat_map varint (shape_spelled s) → kind ≡ kind_of s
    → held_keys new.pools.value ≡ held_keys old.pools.value → held_values new.pools.value ≡ held_values old.pools.value → new.tags.items ≡ []
    → new.bytes.items ≡ old.bytes.items ++ bytes_field 2 (message_of id old.tags.items kind geometry)
    → Writes new name (fs ++ record { id = id; tags = tags; shape = s } ∷ []) []
feature_added old new name fs tags id s kind geometry before by_shape by_kind same_keys same_values cleared by_bytes =
    let f : FeatureView = record { id = id; tags = tags; shape = s } in
    record {
      keys = pooled_ended (λ u. u.0) (held_keys new.pools.value) fs f (same_keys ∙ before.keys);
      values = pooled_ended (λ u. value_written u.1) (held_values new.pools.value) fs f (same_values ∙ before.values);
      indices = λ ks vs. cleared;
      bytes = λ ks vs.
          let keys = held_keys old.pools.value ++ ks in
          let values = held_values old.pools.value ++ vs in
          let message = message_is keys values id tags s old.tags.items kind geometry (before.indices ks vs) by_shape by_kind in
          by_bytes ∙ ap₂ (λ (a b : List ℕ). a ++ bytes_field 2 b) (before.bytes ks vs) message
          ∙ flat_map_more (λ g. bytes_field 2 (feature_written keys values g)) (bytes_field 1 name) fs f ∙ rw (same_keys, same_values) refl;
    }

-- ---- the end

regrouped : (a b c d e : List ℕ) → ((a ++ b) ++ (c ++ d)) ++ e ≡ a ++ (b ++ (c ++ (d ++ e)))
regrouped a b c d e = simp append_assoc

-- the fields of a layer, each after those before it
pub layer_joined : (l : LayerView) (keys values : List (List ℕ)) (a b c d : List ℕ) → keys ≡ pool_of (keys_used (tags_of l.features))
    → values ≡ pool_of (values_used (tags_of l.features)) → a ≡ bytes_field 1 l.name → b ≡ a ++ features_written keys values l.features
    → c ≡ b ++ (flat_map (bytes_field 3) keys ++ flat_map (bytes_field 4) values) → d ≡ c ++ (number_field 5 l.extent ++ number_field 15 l.version)
    → d ≡ layer_written l
unfolding layer_with
layer_joined l keys values a b c d by_keys by_values at_a at_b at_c at_d =
    let name = bytes_field 1 l.name in
    let features = features_written keys values l.features in
    let held_keys = flat_map (bytes_field 3) keys in
    let held_values = flat_map (bytes_field 4) values in
    let end = number_field 5 l.extent ++ number_field 15 l.version in
    let whole : d ≡ ((name ++ features) ++ (held_keys ++ held_values)) ++ end = cc in
    whole ∙ regrouped name features held_keys held_values end ∙ rw (by_keys, by_values) refl

pub finished : (w : LayerWriter) (name : List ℕ) (fs : List FeatureView) (pooled ended : List ℕ) → Writes w name fs []
    → pooled ≡ w.bytes.items ++ (flat_map (bytes_field 3) (held_keys w.pools.value) ++ flat_map (bytes_field 4) (held_values w.pools.value))
    → ended ≡ pooled ++ (number_field 5 DEFAULT_EXTENT ++ number_field 15 CURRENT_VERSION) → ended ≡ layer_written (layer_of name fs)
finished w name fs pooled ended writes by_pools by_end =
    let keys = held_keys w.pools.value in
    let values = held_values w.pools.value in
    let all : tags_of fs ++ [] ≡ tags_of fs = append-nil (tags_of fs) in
    let by_keys : keys ≡ pool_of (keys_used (tags_of fs)) = writes.keys ∙ ap (λ (ts : List Tagged). pool_of (keys_used ts)) all in
    let by_values : values ≡ pool_of (values_used (tags_of fs)) = writes.values ∙ ap (λ (ts : List Tagged). pool_of (values_used ts)) all in
    let features : w.bytes.items ≡ bytes_field 1 name ++ features_written keys values fs = rw (append-nil keys, append-nil values) at (writes.bytes [] []) in
    layer_joined (layer_of name fs) keys values (bytes_field 1 name) w.bytes.items pooled ended by_keys by_values refl features by_pools by_end

-- a layer of this version and extent
pub as_layer_of : (l : LayerView) → l.extent ≡ DEFAULT_EXTENT → l.version ≡ CURRENT_VERSION → layer_written (layer_of l.name l.features) ≡ layer_written l
unfolding layer_with
as_layer_of l extent version = rw (extent, version) refl
