-- What is written for a feature says it.
use Rattle.std.proofs.Common.{◌≡◌, ℕ, Bool, true, false, eqb, ◌^◌, ◌<◌, Less, Equal, List, [], ◌∷◌, ◌++◌, length, map, nat_cmp, refl, sym, subst, ◌∙◌, arith}
use Rattle.std.proofs.Common.{ne_eqb}
use Rattle.std.specs.Prelude.{Option, Some, None, IsSome, IfSome, slice_get}
use Rattle.std.specs.Cmp.{tied_itself}
use Rattle.std.specs.Cmp.Lexicographic.{slice_cmp}
use Rattle.std.specs.List.{flat_map, AllByRecursion}
use Rattle.std.specs.List.Sorted.{IsStrictlySortedBy}
use Rattle.std.proofs.lemmas.Cmp.{nat_list_cmp_total}
use Rattle.std.proofs.lemmas.List.{length-append}
use Rattle.std.proofs.lemmas.List.Elements.{recursion_from_All}
use Rattle.pb_wire.specs.Varint.{varint}
use Rattle.pb_wire.specs.Message.{varint_value, some_bytes, FieldData, IsMessage}
use Rattle.geometry_commands.specs.Shapes as shapes
use Rattle.geometry_commands.specs.Shapes.{ShapeView, points, lines, rings, raw, shape_spelled}
use Rattle.mvt_layer.specs.Tile.{TagView, Tagged, FeatureView}
use Rattle.mvt_layer.specs.Reading.{has_number, kind_of}
use Rattle.mvt_layer.specs.Reads.{values_of, AreNumbers, AreTags, SaysFeature}
use Rattle.mvt_write.specs.CanWrite.{CanWriteFeature}
use Rattle.mvt_write.specs.Fits.{FitsFeature}
use Rattle.mvt_write.specs.Pools.{index_of}
use Rattle.mvt_write.specs.Written.{value_written, number_field, packed_field, id_written, tag_indices, tags_written, kind_number, feature_written}
use Rattle.mvt_write.proofs.Messages.{number_entry, bytes_entry, message_number, message_bytes, only_bytes, packed_are, length_in_field}

has_number_by : (m : ℕ) (ms : List ℕ) (k n : ℕ) (same : Bool) → eqb m n ≡ same → (has_number ms n ≡ false → has_number (ms ++ k ∷ []) n ≡ false)
    → has_number (m ∷ ms) n ≡ false → has_number (m ∷ ms ++ k ∷ []) n ≡ false
has_number_by m ms k n true is rest none = let no : true ≡ false = rw is at none in absurd (cc)
has_number_by m ms k n false is rest none = rw is (rest (rw is at none))

has_number-push : (ms : List ℕ) (k n : ℕ) → (k ≡ n → ⊥) → has_number ms n ≡ false → has_number (ms ++ k ∷ []) n ≡ false
has_number-push [] k n apart none = let differs : eqb k n ≡ false = ne_eqb k n apart in rw differs refl
has_number-push (m ∷ ms) k n apart none = has_number_by m ms k n (eqb m n) refl (has_number-push ms k n apart) none

module _ (keys messages : List (List ℕ)) (values : List TagView) where
  -- the pools have the key and the value of the tag, where its indices say
  pub record Found (t : Tagged) : Type 0 where
    pub key : slice_get keys (index_of keys t.0) ≡ Some t.0
    pub value : slice_get values (index_of messages (value_written t.1)) ≡ Some t.1
    pub key_small : index_of keys t.0 < 2 ^ 32
    pub value_small : index_of messages (value_written t.1) < 2 ^ 32

  abbrev Unused : List ℕ → Tagged → Type 0
  Unused used t = has_number used (index_of keys t.0) ≡ false

  -- an index that isn't used stays so behind that of a lesser key
  unused_more : (t : Tagged) (ts : List Tagged) (used : List ℕ) → Found t → AllByRecursion Found ts
      → AllByRecursion (λ key. slice_cmp nat_cmp t.0 key ≡ Less) (map (λ u. u.0) ts) → AllByRecursion (Unused used) ts
      → AllByRecursion (Unused (used ++ index_of keys t.0 ∷ [])) ts
  unused_more t [] used here found above unused = tt
  unused_more t (u ∷ us) used here found above unused =
      let apart : index_of keys t.0 ≡ index_of keys u.0 → ⊥ = λ same.
      let there : slice_get keys (index_of keys t.0) ≡ Some u.0 = rw same found.0.key in
      let keys_same : t.0 ≡ u.0 = cc (here.key, there) in
      let tied : slice_cmp nat_cmp t.0 u.0 ≡ Equal =
      subst (λ (key : List ℕ). slice_cmp nat_cmp t.0 key ≡ Equal) keys_same (tied_itself nat_list_cmp_total t.0) in
      let less = above.0 in
      let both : Less ≡ Equal = sym less ∙ tied in
      absurd (cc)
      in
      (has_number-push used (index_of keys t.0) (index_of keys u.0) apart unused.0, unused_more t us used here found.1 above.1 unused.1)

  tags_are : (tags : List Tagged) (used : List ℕ) → AllByRecursion Found tags → IsStrictlySortedBy (slice_cmp nat_cmp) (map (λ t. t.0) tags)
      → AllByRecursion (Unused used) tags → AreTags keys values used (tag_indices keys messages tags) tags
  unfolding IsStrictlySortedBy
  tags_are [] used found sorted unused = refl
  tags_are (t ∷ ts) used found sorted unused = (
    t,
    ts,
    refl,
    unused.0,
    found.0.key,
    found.0.value,
    tags_are ts (used ++ index_of keys t.0 ∷ []) found.1 sorted.1 (unused_more t ts used found.0 found.1 sorted.0 unused.1),
  )

  none_used : (tags : List Tagged) → AllByRecursion (Unused []) tags
  none_used [] = tt
  none_used (t ∷ ts) = (refl, none_used ts)

  small_indices : (tags : List Tagged) → AllByRecursion Found tags → AllByRecursion (λ n. n < 2 ^ 32) (tag_indices keys messages tags)
  small_indices [] found = tt
  small_indices (t ∷ ts) found = (found.0.key_small, (found.0.value_small, small_indices ts found.1))

  -- ---- the fields of a feature

  abbrev tags_entries : List Tagged → List FieldData
  tags_entries [] = []
  tags_entries (t ∷ ts) = bytes_entry 2 (flat_map varint (tag_indices keys messages (t ∷ ts))) ∷ []

  tags_message : (tags : List Tagged) (rest : List ℕ) (fs : List FieldData) → length (tags_written keys messages tags) < 2 ^ 64 → IsMessage rest fs
      → IsMessage (tags_written keys messages tags ++ rest) (tags_entries tags ++ fs)
  tags_message [] rest fs below others = others
  tags_message (t ∷ ts) rest fs below others =
      let indices = flat_map varint (tag_indices keys messages (t ∷ ts)) in
      message_bytes 2 indices rest fs (omega arith, omega arith) (omega (arith, length_in_field 2 indices)) others

  abbrev shape_bytes : ShapeView → List ℕ
  shape_bytes shape = flat_map varint (shape_spelled shape)

  abbrev last_entries : ShapeView → List FieldData
  last_entries shape = number_entry 3 (kind_number shape) ∷ bytes_entry 4 (shape_bytes shape) ∷ []

  abbrev last_fields : ShapeView → List ℕ
  last_fields shape = number_field 3 (kind_number shape) ++ packed_field 4 (shape_spelled shape)

  kind_small : (shape : ShapeView) → kind_number shape < 4
  kind_small (points ps) = omega arith
  kind_small (lines ls) = omega arith
  kind_small (rings ls) = omega arith
  kind_small (raw ns) = omega arith

  kind_same : (shape : ShapeView) → kind_of (Some (kind_number shape)) ≡ shapes.kind_of shape
  kind_same (points ps) = refl
  kind_same (lines ls) = refl
  kind_same (rings ls) = refl
  kind_same (raw ns) = refl

  last_message : (shape : ShapeView) → length (last_fields shape) < 2 ^ 64 → IsMessage (last_fields shape) (last_entries shape)
  last_message shape below =
      let geometry = shape_bytes shape in
      let a = length-append (number_field 3 (kind_number shape)) (packed_field 4 (shape_spelled shape)) in
      message_number 3 (kind_number shape) (packed_field 4 (shape_spelled shape)) (bytes_entry 4 geometry ∷ []) (omega arith, omega arith)
      (omega (arith, kind_small shape)) (only_bytes 4 geometry (omega arith, omega arith) (omega (arith, a, length_in_field 4 geometry)))

  ids_first : (id : ℕ) (tags : List Tagged) (shape : ShapeView)
      → values_of 1 (number_entry 1 id ∷ (tags_entries tags ++ last_entries shape)) ≡ varint_value id ∷ []
  ids_first id [] shape = refl
  ids_first id (t ∷ ts) shape = refl

  kinds_third : (id : ℕ) (tags : List Tagged) (shape : ShapeView)
      → values_of 3 (number_entry 1 id ∷ (tags_entries tags ++ last_entries shape)) ≡ varint_value (kind_number shape) ∷ []
  kinds_third id [] shape = refl
  kinds_third id (t ∷ ts) shape = refl

  integers_fourth : (id : ℕ) (tags : List Tagged) (shape : ShapeView)
      → values_of 4 (number_entry 1 id ∷ (tags_entries tags ++ last_entries shape)) ≡ some_bytes (shape_bytes shape) ∷ []
  integers_fourth id [] shape = refl
  integers_fourth id (t ∷ ts) shape = refl

  indices_second : (id : ℕ) (tags : List Tagged) (shape : ShapeView) → AllByRecursion Found tags
      → AreNumbers (values_of 2 (number_entry 1 id ∷ (tags_entries tags ++ last_entries shape))) (tag_indices keys messages tags)
  indices_second id [] shape found = refl
  indices_second id (t ∷ ts) shape found = packed_are (tag_indices keys messages (t ∷ ts)) (small_indices (t ∷ ts) found)

  says_by_id : (id : Option ℕ) (f : FeatureView) → f.id ≡ id → CanWriteFeature f → FitsFeature f → AllByRecursion Found f.tags
      → length (id_written id ++ (tags_written keys messages f.tags ++ last_fields f.shape)) < 2 ^ 64
      → SaysFeature keys values (id_written id ++ (tags_written keys messages f.tags ++ last_fields f.shape)) f
  says_by_id None f is can fits found below = let some : IsSome {T = ℕ} None = subst (λ (o : Option ℕ). IsSome o) is can.id in absurd (cc)
  says_by_id (Some id) f is can fits found below =
      let small : id < 2 ^ 64 = subst (λ (o : Option ℕ). IfSome o (λ n. n < 2 ^ 64)) is fits.id in
      let rest = tags_written keys messages f.tags ++ last_fields f.shape in
      let a = length-append (number_field 1 id) rest in
      let b = length-append (tags_written keys messages f.tags) (last_fields f.shape) in
      record {
        fields = number_entry 1 id ∷ (tags_entries f.tags ++ last_entries f.shape);
        message =
            message_number 1 id rest (tags_entries f.tags ++ last_entries f.shape) (omega arith, omega arith) small
            (tags_message f.tags (last_fields f.shape) (last_entries f.shape) (omega (arith, a, b)) (last_message f.shape (omega (arith, a, b))));
        id = rw (ids_first id f.tags f.shape) is;
        kind = Some (kind_number f.shape);
        kind_is = rw (kinds_third id f.tags f.shape) refl;
        indices = tag_indices keys messages f.tags;
        indices_are = indices_second id f.tags f.shape found;
        ints = shape_spelled f.shape;
        ints_are =
            rw (integers_fourth id f.tags f.shape)
            (packed_are (shape_spelled f.shape) (recursion_from_All (λ n. n < 2 ^ 32) (shape_spelled f.shape) fits.integers));
        tags = tags_are f.tags [] found can.keys (none_used f.tags);
        shape = rw (kind_same f.shape) fits.shape;
      }

  pub says_feature : (f : FeatureView) → CanWriteFeature f → FitsFeature f → AllByRecursion Found f.tags → length (feature_written keys messages f) < 2 ^ 64
      → SaysFeature keys values (feature_written keys messages f) f
  unfolding feature_written
  says_feature f can fits found below = says_by_id f.id f refl can fits found below
