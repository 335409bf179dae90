-- How long what is written is at most.
use Rattle.std.proofs.Common.{◌≡◌, ℕ, zero, suc, ◌+◌, ◌*◌, ◌/◌, ◌%◌, ◌≤◌, Bool, true, false, cond, ltb, not, List, [], ◌∷◌, ◌++◌, length, map, arith}
use Rattle.std.specs.Prelude.{Option, Some, None, filter, if◌then◌else◌}
use Rattle.std.specs.List.{flat_map}
use Rattle.std.specs.Str.{bytes_eq}
use Rattle.std.proofs.lemmas.List.{length-append}
use Rattle.pb_wire.specs.Varint.{shortest_in, varint}
use Rattle.pb_wire.specs.Zigzag.{zigzagged}
use Rattle.geometry_commands.specs.Shapes.{shape_spelled}
use Rattle.mvt_layer.specs.Tile.{TagView, text, natural, negative, truth, float, double, Tagged, FeatureView, LayerView}
use Rattle.mvt_write.specs.Pools.{pool_of}
use Rattle.mvt_write.specs.Written.{number_field, bytes_field, packed_field, value_written, id_written, tag_indices, tags_written, kind_number, feature_written}
use Rattle.mvt_write.specs.Written.{tags_of, keys_used, values_used, layer_with, layer_written, written}

-- ---- sums

-- the sum of what each item counts for
abbrev pub total : {X : Type 0} → (X → ℕ) → List X → ℕ
total f [] = 0
total f (x ∷ xs) = f x + total f xs

module _ {X : Type 0} (f : X → ℕ) where
  pub total-append : (xs ys : List X) → total f (xs ++ ys) ≡ total f xs + total f ys
  total-append [] ys = omega arith
  total-append (x ∷ xs) ys = omega (arith, total-append xs ys)

  total-filter : (p : X → Bool) (xs : List X) → total f (filter p xs) ≤ total f xs
  total-filter p [] = omega arith
  total-filter p (x ∷ xs) = by (p x) (total-filter p xs)
    where
      by : (b : Bool) → total f (filter p xs) ≤ total f xs → total f (cond b (x ∷ filter p xs) (filter p xs)) ≤ f x + total f xs
      by true less = omega arith
      by false less = omega arith

  -- texts, each at most so long, one after the other
  length_joined : (write : X → List ℕ) (xs : List X) → ((x : X) → length (write x) ≤ f x) → length (flat_map write xs) ≤ total f xs
  length_joined write [] each = omega arith
  length_joined write (x ∷ xs) each = omega (arith, length-append (write x) (flat_map write xs), each x, length_joined write xs each)

-- a pool holds no more than its uses
total-pool_of : (f : List ℕ → ℕ) (uses : List (List ℕ)) → total f (pool_of uses) ≤ total f uses
unfolding pool_of
total-pool_of f [] = omega arith
total-pool_of f (first ∷ uses) = omega (arith, total-pool_of f uses, total-filter f (λ entry. not (bytes_eq entry first)) (pool_of uses))

-- ---- fields

length_shortest : (more n : ℕ) → length (shortest_in more n) ≤ suc more
unfolding shortest_in
length_shortest zero n = omega arith
length_shortest (suc more) n = by (ltb n 128) (length_shortest more (n / 128))
  where
    by : (b : Bool) → length (shortest_in more (n / 128)) ≤ suc more
        → length (cond b (n ∷ []) ((128 + n % 128) ∷ shortest_in more (n / 128))) ≤ suc (suc more)
    by true less = omega arith
    by false less = omega arith

length_varint : (n : ℕ) → length (varint n) ≤ 10
unfolding varint
length_varint n = length_shortest 9 n

length_varints : (ns : List ℕ) → length (flat_map varint ns) ≤ 10 * length ns
length_varints [] = omega arith
length_varints (n ∷ ns) = omega (arith, length-append (varint n) (flat_map varint ns), length_varint n, length_varints ns)

length_number : (number n : ℕ) → length (number_field number n) ≤ 20
length_number number n = omega (arith, length-append (varint (8 * number + 0)) (varint n), length_varint (8 * number + 0), length_varint n)

length_bytes : (number : ℕ) (bytes : List ℕ) → length (bytes_field number bytes) ≤ 20 + length bytes
length_bytes number bytes =
    let key = varint (8 * number + 2) in
    let long = varint (length bytes) in
    omega (arith, length-append key (long ++ bytes), length-append long bytes, length_varint (8 * number + 2), length_varint (length bytes))

length_packed : (number : ℕ) (ns : List ℕ) → length (packed_field number ns) ≤ 20 + 10 * length ns
length_packed number ns = omega (arith, length_bytes number (flat_map varint ns), length_varints ns)

-- the text that a value is, and none where it is another
abbrev pub text_in : TagView → List ℕ
text_in (text t) = t
text_in (natural n) = []
text_in (negative z) = []
text_in (truth b) = []
text_in (float part) = []
text_in (double part) = []

pub length_value : (v : TagView) → length (value_written v) ≤ 20 + length (text_in v)
unfolding value_written
length_value (text t) = length_bytes 1 t
length_value (natural n) = length_number 5 n
length_value (negative z) = length_number 6 (zigzagged z)
length_value (truth b) = length_number 7 (if b then 1 else 0)
length_value (float part) = omega arith
length_value (double part) = omega arith

-- ---- features

length_id : (id : Option ℕ) → length (id_written id) ≤ 20
length_id None = omega arith
length_id (Some n) = length_number 1 n

module _ (keys values : List (List ℕ)) where
  length_indices : (ts : List Tagged) → length (tag_indices keys values ts) ≡ 2 * length ts
  length_indices [] = omega arith
  length_indices (t ∷ ts) = omega (arith, length_indices ts)

  length_tags : (ts : List Tagged) → length (tags_written keys values ts) ≤ 20 + 20 * length ts
  length_tags [] = omega arith
  length_tags (t ∷ ts) = omega (arith, length_packed 2 (tag_indices keys values (t ∷ ts)), length_indices (t ∷ ts))

  -- a feature, without what it adds to the pools
  abbrev bare_size : FeatureView → ℕ
  bare_size f = 100 + 20 * length f.tags + 10 * length (shape_spelled f.shape)

  length_feature : (f : FeatureView) → length (bytes_field 2 (feature_written keys values f)) ≤ bare_size f
  unfolding feature_written
  length_feature f =
      let id = id_written f.id in
      let tags = tags_written keys values f.tags in
      let kind = number_field 3 (kind_number f.shape) in
      let shape = packed_field 4 (shape_spelled f.shape) in
      omega (
        arith,
        length-append id (tags ++ (kind ++ shape)),
        length-append tags (kind ++ shape),
        length-append kind shape,
        length_bytes 2 (id ++ (tags ++ (kind ++ shape))),
        length_id f.id,
        length_tags f.tags,
        length_number 3 (kind_number f.shape),
        length_packed 4 (shape_spelled f.shape),
      )

-- ---- layers

-- what a tag counts for: its indices, its key and its value
abbrev pub tag_size : Tagged → ℕ
tag_size t = 60 + length t.0 + length (value_written t.1)

-- what a feature counts for
abbrev pub feature_size : FeatureView → ℕ
feature_size f = 100 + 10 * length (shape_spelled f.shape) + total tag_size f.tags

abbrev key_size : Tagged → ℕ
key_size t = 20 + length t.0

abbrev value_size : Tagged → ℕ
value_size t = 20 + length (value_written t.1)

tag_parts : (ts : List Tagged) → 20 * length ts + total key_size ts + total value_size ts ≡ total tag_size ts
tag_parts [] = omega arith
tag_parts (t ∷ ts) = omega (arith, tag_parts ts)

feature_parts : (keys values : List (List ℕ)) (fs : List FeatureView)
    → total (bare_size keys values) fs + total key_size (tags_of fs) + total value_size (tags_of fs) ≡ total feature_size fs
feature_parts keys values [] = omega arith
feature_parts keys values (f ∷ fs) =
    omega (arith, total-append key_size f.tags (tags_of fs), total-append value_size f.tags (tags_of fs), tag_parts f.tags, feature_parts keys values fs)

total-map : {X : Type 0} (f : List ℕ → ℕ) (part : X → List ℕ) (xs : List X) → total f (map part xs) ≡ total (λ x. f (part x)) xs
total-map f part [] = omega arith
total-map f part (x ∷ xs) = omega (arith, total-map f part xs)

-- the entries of the pools of tags
length_pool : (number : ℕ) (part : Tagged → List ℕ) (ts : List Tagged)
    → length (flat_map (bytes_field number) (pool_of (map part ts))) ≤ total (λ t. 20 + length (part t)) ts
length_pool number part ts =
    let size : List ℕ → ℕ = λ entry. 20 + length entry in
    let pool = pool_of (map part ts) in
    omega (arith, length_joined size (bytes_field number) pool (length_bytes number), total-pool_of size (map part ts), total-map size part ts)

length_layer : (l : LayerView) → length (layer_written l) ≤ 60 + length l.name + total feature_size l.features
unfolding layer_with
length_layer l =
    let tags = tags_of l.features in
    let keys = pool_of (keys_used tags) in
    let values = pool_of (values_used tags) in
    let name = bytes_field 1 l.name in
    let features = flat_map (λ f. bytes_field 2 (feature_written keys values f)) l.features in
    let held_keys = flat_map (bytes_field 3) keys in
    let held_values = flat_map (bytes_field 4) values in
    let end = number_field 5 l.extent ++ number_field 15 l.version in
    omega (
      arith,
      length-append name (features ++ (held_keys ++ (held_values ++ end))),
      length-append features (held_keys ++ (held_values ++ end)),
      length-append held_keys (held_values ++ end),
      length-append held_values end,
      length-append (number_field 5 l.extent) (number_field 15 l.version),
      length_bytes 1 l.name,
      length_joined (bare_size keys values) (λ f. bytes_field 2 (feature_written keys values f)) l.features (length_feature keys values),
      length_pool 3 (λ t. t.0) tags,
      length_pool 4 (λ t. value_written t.1) tags,
      length_number 5 l.extent,
      length_number 15 l.version,
      feature_parts keys values l.features,
    )

-- what a layer counts for
abbrev pub layer_size : LayerView → ℕ
layer_size l = 80 + length l.name + total feature_size l.features

layer_field : (l : LayerView) → length (bytes_field 3 (layer_written l)) ≤ layer_size l
layer_field l = omega (arith, length_bytes 3 (layer_written l), length_layer l)

pub length_written : (ls : List LayerView) → length (written ls) ≤ total layer_size ls
unfolding written
length_written ls = length_joined layer_size (λ l. bytes_field 3 (layer_written l)) ls layer_field
