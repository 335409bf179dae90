-- What is written for layers reads as these layers.
use Rattle.std.proofs.Common.{◌≡◌, ℕ, Bool, true, false, eqb, inr, ◌^◌, ◌<◌, List, [], ◌∷◌, ◌++◌, length, get_or, map, refl, sym, ap, subst, ◌∙◌, append-nil}
use Rattle.std.proofs.Common.{map-id, arith}
use Rattle.std.specs.Prelude.{Some, All, if◌then◌else◌}
use Rattle.std.specs.Str.{IsUtf8, bytes_eq}
use Rattle.std.specs.Option.{option_map}
use Rattle.std.specs.List.{AllByRecursion}
use Rattle.std.proofs.lemmas.List.{length-append, length-map, get_or-map}
use Rattle.std.proofs.lemmas.List.Elements.{All-map, All-append, recursion_from_All}
use Rattle.std.proofs.lemmas.List.Folds.{list_any_at}
use Rattle.std.proofs.lemmas.Option.{slice_get-map}
use Rattle.std.proofs.lemmas.Slice.Eq.{bytes_eq-Decides}
use Rattle.pb_wire.specs.Message.{Value, some_bytes, FieldData, IsMessage}
use Rattle.mvt_layer.specs.Tile.{TagView, truth, Tagged, FeatureView, LayerView}
use Rattle.mvt_layer.specs.Reads.{values_of, Each, IsText, SaysValue, SaysFeature, SaysLayer, ReadsAs}
use Rattle.mvt_write.specs.CanWrite.{CanWriteValue, CanWriteFeature, CanWriteLayer, CanWriteAll}
use Rattle.mvt_write.specs.Fits.{FitsTag, FitsFeature, FitsLayer}
use Rattle.mvt_write.specs.Pools.{pool_of, index_of, has_entry}
use Rattle.mvt_write.specs.Written.{value_written, bytes_field, number_field, feature_written, tags_of, keys_used, values_used, layer_with, layer_written}
use Rattle.mvt_write.specs.Written.{written}
use Rattle.mvt_write.proofs.Lists.{front_has, back_has}
use Rattle.mvt_write.proofs.Pooled.{index_within, found_at, has-pool_of, All-pool_of, length-pool_of}
use Rattle.mvt_write.proofs.Messages.{number_entry, bytes_entry, message_number, message_bytes, only_number, length_in_field, fields_written, entries}
use Rattle.mvt_write.proofs.Messages.{message_each, values_same, values_other, each_says}
use Rattle.mvt_write.proofs.Distinct.{value_apart}
use Rattle.mvt_write.proofs.ValuesRead.{says_value}
use Rattle.mvt_write.proofs.FeaturesRead.{Found, says_feature}

-- ---- the values of messages

-- the value of the first tag that is written so
spoken : List Tagged → List ℕ → TagView
spoken [] message = truth false
spoken (t ∷ ts) message = if bytes_eq (value_written t.1) message then t.1 else spoken ts message

abbrev CanTag : Tagged → Type 0
CanTag t = CanWriteValue t.1 × FitsTag t

spoken_by : (u : Tagged) (us : List Tagged) (v : TagView) (same : Bool) → bytes_eq (value_written u.1) (value_written v) ≡ same → CanWriteValue u.1
    → CanWriteValue v → (has_entry (values_used us) (value_written v) ≡ true → spoken us (value_written v) ≡ v)
    → has_entry (values_used (u ∷ us)) (value_written v) ≡ true → spoken (u ∷ us) (value_written v) ≡ v
unfolding spoken has_entry
spoken_by u us v true is can_u can_v behind has = rw is (value_apart u.1 v can_u can_v ((bytes_eq-Decides (value_written u.1) (value_written v)).0 is))
spoken_by u us v false is can_u can_v behind has = rw is (behind (rw is at has))

spoken_is : (tags : List Tagged) (v : TagView) → AllByRecursion CanTag tags → CanWriteValue v → has_entry (values_used tags) (value_written v) ≡ true
    → spoken tags (value_written v) ≡ v
unfolding has_entry
spoken_is [] v all can has = absurd (cc)
spoken_is (u ∷ us) v all can has = spoken_by u us v (bytes_eq (value_written u.1) (value_written v)) refl all.0.0 can (spoken_is us v all.1 can) has

-- ---- what the pools of tags hold

used_at : (part : Tagged → List ℕ) (tags : List Tagged) (i : ℕ) (d : Tagged) → i < length tags → has_entry (map part tags) (part (get_or tags i d)) ≡ true
unfolding has_entry
used_at part tags i d within =
    let here = get_or-map part tags i d (part d) within in
    list_any_at (λ held. bytes_eq held (part (get_or tags i d))) (map part tags) i (part d) (rw (length-map tags part) within)
    (rw here ((bytes_eq-Decides (part (get_or tags i d)) (part (get_or tags i d))).1 refl))

module _ (tags : List Tagged) (can : All CanTag tags) where
  abbrev key_pool : List (List ℕ)
  key_pool = pool_of (keys_used tags)

  abbrev message_pool : List (List ℕ)
  message_pool = pool_of (values_used tags)

  abbrev value_pool : List TagView
  value_pool = map (spoken tags) message_pool

  index_small : (part : Tagged → List ℕ) (entry : List ℕ) → length tags < 2 ^ 32 → has_entry (pool_of (map part tags)) entry ≡ true
      → index_of (pool_of (map part tags)) entry < 2 ^ 32
  index_small part entry few has = omega (arith, index_within (pool_of (map part tags)) entry has, length-pool_of (map part tags), length-map tags part)

  found_all : length tags < 2 ^ 32 → All (Found key_pool message_pool value_pool) tags
  found_all few i d within =
      let t = get_or tags i d in
      let each = recursion_from_All CanTag tags can in
      let key_used = used_at (λ u. u.0) tags i d within in
      let value_used = used_at (λ u. value_written u.1) tags i d within in
      let has_key : has_entry key_pool t.0 ≡ true = has-pool_of (keys_used tags) t.0 ∙ key_used in
      let has_value : has_entry message_pool (value_written t.1) ≡ true = has-pool_of (values_used tags) (value_written t.1) ∙ value_used in
      record {
        key = found_at key_pool t.0 has_key;
        value = slice_get-map (spoken tags) message_pool (index_of message_pool (value_written t.1))
            ∙ ap (option_map (spoken tags)) (found_at message_pool (value_written t.1) has_value)
            ∙ ap Some (spoken_is tags t.1 each (can i d within).0 value_used);
        key_small = index_small (λ u. u.0) t.0 few has_key;
        value_small = index_small (λ u. value_written u.1) (value_written t.1) few has_value;
      }

  abbrev Speaks : List ℕ → Type 0
  Speaks message = length message < 2 ^ 64 → SaysValue message (spoken tags message)

  speaks_all : All Speaks message_pool
  speaks_all = All-pool_of Speaks (values_used tags) (All-map Speaks (λ u. value_written u.1) tags (λ i d within below.
      let t = get_or tags i d in
      let is = spoken_is tags t.1 (recursion_from_All CanTag tags can) (can i d within).0 (used_at (λ u. value_written u.1) tags i d within) in
      subst (λ (v : TagView). SaysValue (value_written t.1) v) (sym is) (says_value t.1 (can i d within).0 (can i d within).1.value below)))

  texts_all : All IsUtf8 key_pool
  texts_all = All-pool_of IsUtf8 (keys_used tags) (All-map IsUtf8 (λ u. u.0) tags (λ i d within. (can i d within).1.key))

-- ---- layers

-- in each feature each tag can be written
tags_can : (fs : List FeatureView) → AllByRecursion CanWriteFeature fs → AllByRecursion FitsFeature fs → All CanTag (tags_of fs)
tags_can [] can fits = λ i d within. absurd (omega arith)
tags_can (f ∷ fs) can fits = All-append CanTag f.tags (tags_of fs) (λ i d within. (can.0.values i d within, fits.0.tags i d within)) (tags_can fs can.1 fits.1)

-- what holds of all tags holds of those of each feature
tags_each : (P : Tagged → Type 0) (fs : List FeatureView) → AllByRecursion P (tags_of fs) → AllByRecursion (λ f. AllByRecursion P f.tags) fs
tags_each P [] all = tt
tags_each P (f ∷ fs) all = (front_has P f.tags (tags_of fs) all, tags_each P fs (back_has P f.tags (tags_of fs) all))

features_say : (keys messages : List (List ℕ)) (values : List TagView) (fs : List FeatureView) → AllByRecursion CanWriteFeature fs
    → AllByRecursion FitsFeature fs → AllByRecursion (λ f. AllByRecursion (Found keys messages values) f.tags) fs
    → AllByRecursion (λ f. length (feature_written keys messages f) < 2 ^ 64 → SaysFeature keys values (feature_written keys messages f) f) fs
features_say keys messages values [] can fits found = tt
features_say keys messages values (f ∷ fs) can fits found =
    (says_feature keys messages values f can.0 fits.0 found.0, features_say keys messages values fs can.1 fits.1 found.1)

texts_say : (keys : List (List ℕ)) → AllByRecursion IsUtf8 keys → AllByRecursion (λ key. length key < 2 ^ 64 → IsText key key) keys
texts_say [] all = tt
texts_say (key ∷ keys) all = (λ below. (refl, all.0), texts_say keys all.1)

abbrev end_fields : LayerView → List ℕ
end_fields l = number_field 5 l.extent ++ number_field 15 l.version

abbrev end_entries : LayerView → List FieldData
end_entries l = number_entry 5 l.extent ∷ number_entry 15 l.version ∷ []

end_message : (l : LayerView) → CanWriteLayer l → IsMessage (end_fields l) (end_entries l)
end_message l can =
    message_number 5 l.extent (number_field 15 l.version) (number_entry 15 l.version ∷ []) (omega arith, omega arith) (omega (arith, can.extent))
    (only_number 15 l.version (omega arith, omega arith) (omega (arith, can.version)))

-- the parts that a layer's message has, behind its name
module _ (write : FeatureView → List ℕ) (fs : List FeatureView) (keys messages : List (List ℕ)) (l : LayerView) where
  abbrev middle : List FieldData
  middle = entries 2 write fs ++ (entries 3 (λ k. k) keys ++ (entries 4 (λ m. m) messages ++ end_entries l))

  none_of : (number : ℕ) → eqb 2 number ≡ false → eqb 3 number ≡ false → eqb 4 number ≡ false → values_of number middle ≡ values_of number (end_entries l)
  none_of number two three four = values_other 2 write number fs (entries 3 (λ k. k) keys ++ (entries 4 (λ m. m) messages ++ end_entries l)) two
      ∙ values_other 3 (λ k. k) number keys (entries 4 (λ m. m) messages ++ end_entries l) three ∙ values_other 4 (λ m. m) number messages (end_entries l) four

  abbrev some_parts : List (List ℕ) → List Value
  some_parts parts = map (λ p. some_bytes p) parts

  second : values_of 2 middle ≡ some_parts (map write fs)
  second =
      let rest : values_of 2 (entries 3 (λ k. k) keys ++ (entries 4 (λ m. m) messages ++ end_entries l)) ≡ [] =
      values_other 3 (λ k. k) 2 keys (entries 4 (λ m. m) messages ++ end_entries l) refl ∙ values_other 4 (λ m. m) 2 messages (end_entries l) refl in
      values_same 2 write fs (entries 3 (λ k. k) keys ++ (entries 4 (λ m. m) messages ++ end_entries l))
      ∙ ap (λ (vs : List Value). some_parts (map write fs) ++ vs) rest ∙ append-nil (some_parts (map write fs))

  third : values_of 3 middle ≡ some_parts (map (λ k. k) keys)
  third =
      let rest : values_of 3 (entries 4 (λ m. m) messages ++ end_entries l) ≡ [] = values_other 4 (λ m. m) 3 messages (end_entries l) refl in
      values_other 2 write 3 fs (entries 3 (λ k. k) keys ++ (entries 4 (λ m. m) messages ++ end_entries l)) refl
      ∙ values_same 3 (λ k. k) keys (entries 4 (λ m. m) messages ++ end_entries l) ∙ ap (λ (vs : List Value). some_parts (map (λ k. k) keys) ++ vs) rest
      ∙ append-nil (some_parts (map (λ k. k) keys))

  fourth : values_of 4 middle ≡ some_parts (map (λ m. m) messages)
  fourth =
      values_other 2 write 4 fs (entries 3 (λ k. k) keys ++ (entries 4 (λ m. m) messages ++ end_entries l)) refl
      ∙ values_other 3 (λ k. k) 4 keys (entries 4 (λ m. m) messages ++ end_entries l) refl ∙ values_same 4 (λ m. m) messages (end_entries l)
      ∙ append-nil (some_parts (map (λ m. m) messages))

says_layer : (l : LayerView) → CanWriteLayer l → FitsLayer l → length (layer_written l) < 2 ^ 64 → SaysLayer (layer_written l) l
unfolding layer_with
says_layer l can fits below =
    let fs = l.features in
    let can_each = recursion_from_All CanWriteFeature fs can.features in
    let fits_each = recursion_from_All FitsFeature fs fits.features in
    let tags = tags_of fs in
    let can_tags = tags_can fs can_each fits_each in
    let ks = key_pool tags can_tags in
    let ms = message_pool tags can_tags in
    let vs = value_pool tags can_tags in
    let write = feature_written ks ms in
    let found = tags_each (Found ks ms vs) fs (recursion_from_All (Found ks ms vs) tags (found_all tags can_tags can.few)) in
    let feature_fields = fields_written 2 write fs in
    let key_fields = fields_written 3 (λ k. k) ks in
    let value_fields = fields_written 4 (λ m. m) ms in
    let a = length-append (bytes_field 1 l.name) (feature_fields ++ (key_fields ++ (value_fields ++ end_fields l))) in
    let b = length-append feature_fields (key_fields ++ (value_fields ++ end_fields l)) in
    let c = length-append key_fields (value_fields ++ end_fields l) in
    let d = length-append value_fields (end_fields l) in
    let n = length_in_field 1 l.name in
    let features_small : length feature_fields < 2 ^ 64 = omega (arith, a, b) in
    let keys_small : length key_fields < 2 ^ 64 = omega (arith, a, b, c) in
    let values_small : length value_fields < 2 ^ 64 = omega (arith, a, b, c, d) in
    let m4 = message_each 4 (λ m. m) ms (end_fields l) (end_entries l) (omega arith, omega arith) values_small (end_message l can) in
    let m3 = message_each 3 (λ k. k) ks (value_fields ++ end_fields l) (entries 4 (λ m. m) ms ++ end_entries l) (omega arith, omega arith) keys_small m4 in
    let m2 =
    message_each 2 write fs (key_fields ++ (value_fields ++ end_fields l)) (entries 3 (λ k. k) ks ++ (entries 4 (λ m. m) ms ++ end_entries l))
    (omega arith, omega arith) features_small m3 in
    record {
      fields = bytes_entry 1 l.name ∷ middle write fs ks ms l;
      message =
          message_bytes 1 l.name (feature_fields ++ (key_fields ++ (value_fields ++ end_fields l))) (middle write fs ks ms l) (omega arith, omega arith)
          (omega (arith, a, n)) m2;
      name = rw (none_of write fs ks ms l 1 refl refl refl) refl;
      name_text = fits.name;
      raw_version = Some l.version;
      raw_version_is = rw (none_of write fs ks ms l 15 refl refl refl) refl;
      version = (refl, omega (arith, can.version));
      version_known = inr can.version;
      raw_extent = Some l.extent;
      raw_extent_is = rw (none_of write fs ks ms l 5 refl refl refl) refl;
      extent = (refl, omega (arith, can.extent));
      extent_some = omega (arith, can.extent);
      raw_keys = map (λ k. k) ks;
      raw_keys_are = third write fs ks ms l;
      keys = ks;
      keys_are =
          subst (λ (texts : List (List ℕ)). Each IsText (map (λ k. k) ks) texts) (map-id ks)
          (each_says 3 (λ k. k) IsText (λ k. k) ks (texts_say ks (recursion_from_All IsUtf8 ks (texts_all tags can_tags))) keys_small);
      raw_values = map (λ m. m) ms;
      raw_values_are = fourth write fs ks ms l;
      values = vs;
      values_are = each_says 4 (λ m. m) SaysValue (spoken tags) ms (recursion_from_All (Speaks tags can_tags) ms (speaks_all tags can_tags)) values_small;
      raw_features = map write fs;
      raw_features_are = second write fs ks ms l;
      features =
          subst (λ (gs : List FeatureView). Each (SaysFeature ks vs) (map write fs) gs) (map-id fs)
          (each_says 2 write (SaysFeature ks vs) (λ f. f) fs (features_say ks ms vs fs can_each fits_each found) features_small);
    }

-- ---- tiles

layers_say : (ls : List LayerView) → AllByRecursion CanWriteLayer ls → AllByRecursion FitsLayer ls
    → AllByRecursion (λ l. length (layer_written l) < 2 ^ 64 → SaysLayer (layer_written l) l) ls
layers_say [] can fits = tt
layers_say (l ∷ ls) can fits = (says_layer l can.0 fits.0, layers_say ls can.1 fits.1)

pub written_reads : (ls : List LayerView) → CanWriteAll ls → All FitsLayer ls → length (written ls) < 2 ^ 64 → ReadsAs (written ls) ls
unfolding written
written_reads ls can fits below =
    let says = layers_say ls (recursion_from_All CanWriteLayer ls can.layers) (recursion_from_All FitsLayer ls fits) in
    let m = message_each 3 layer_written ls [] [] (omega arith, omega arith) below refl in
    record {
      fields = entries 3 layer_written ls ++ [];
      message = subst (λ (b : List ℕ). IsMessage b (entries 3 layer_written ls ++ [])) (append-nil (fields_written 3 layer_written ls)) m;
      parts = map layer_written ls;
      parts_are = values_same 3 layer_written ls [] ∙ append-nil (map (λ p. some_bytes p) (map layer_written ls));
      layers =
          subst (λ (all : List LayerView). Each SaysLayer (map layer_written ls) all) (map-id ls) (each_says 3 layer_written SaysLayer (λ l. l) ls says below);
      named = can.named;
    }
