-- Layers as JSON: members that are put in the order of their keys are in that order, and no number is a float.
use Rattle.std.proofs.Common.{◌≡◌, ◌≤◌, ℕ, false, Some, arith, List, [], ◌∷◌, ◌++◌, map, Less, Greater, nat_cmp}
use Rattle.std.proofs.Common.{Result, Ok, Err, IfOk, refl, sym, ap, subst, ◌∙◌}
use Rattle.std.specs.Ordering.{ordering_reverse}
use Rattle.std.specs.Cmp.Lexicographic.{slice_cmp}
use Rattle.std.specs.List.{AllByRecursion}
use Rattle.std.specs.List.Sorted.{IsStrictlySortedBy}
use Rattle.std.specs.Map.{keys_of}
use Rattle.std.specs.String.{string_bytes, string_cmp}
use Rattle.std.specs.declared.alloc.Global.{Global}
use Rattle.std.specs.declared.alloc.AllocError.{AllocError}
use Rattle.std.specs.declared.string.String.{String}
use Rattle.std.proofs.lemmas.Cmp.{nat_list_cmp_total}
use Rattle.std.proofs.lemmas.List.{map-append}
use Rattle.std.proofs.lemmas.Map.Keys.{sorted_head, sorted_tail}
use Rattle.serde_json.specs.Data.{Data, Members, put, string, member, depth, items_depth, members_depth}
use Rattle.serde_json.specs.Read.{read, max_depth}
use Rattle.serde_json.specs.declared.value.Value.{Value}
use Rattle.serde_json.specs.View.{items_of, view}
use Rattle.serde_json.specs.Written.{has_float, items_have_float, members_have_float, compact_text}
use Rattle.feature_store.specs.Store.{FeatureMap}
use Rattle.map_metadata.specs.declared.field_kind.FieldKind.{FieldKind}
use Rattle.map_metadata.specs.declared.summary.LayerSummary.{LayerSummary}
use Rattle.map_metadata.specs.Fields.{kind_name}
use Rattle.map_metadata.specs.Metadata.{LayerData, fields_json, layer_json, IsMetadata}
use Rattle.map_metadata.specs.Summaries.{Fields, HasOrder, fields_data, layer_data}

-- a key with its kind
abbrev pub Field : Type 0
Field = String Global × FieldKind

before_there : (k : List ℕ) (ys : List Field) (x : Field) (rest : List Field)
    → AllByRecursion (λ y. slice_cmp nat_cmp k (string_bytes y) ≡ Less) (keys_of (ys ++ x ∷ rest)) → slice_cmp nat_cmp k (string_bytes x.0) ≡ Less
before_there k [] x rest h = h.0
before_there k (y ∷ ys) x rest h = before_there k ys x rest h.1

behind : (a b : List ℕ) → slice_cmp nat_cmp a b ≡ Less → slice_cmp nat_cmp b a ≡ Greater
behind a b h = nat_list_cmp_total.antisymm b a ∙ ap ordering_reverse h

put_behind : (ys : List Field) (x : Field) (rest : List Field) → IsStrictlySortedBy string_cmp (keys_of (ys ++ x ∷ rest))
    → put (string_bytes x.0) (string (kind_name x.1)) (fields_json (fields_data ys)) ≡ fields_json (fields_data (ys ++ x ∷ []))
put_behind [] x rest s = refl
put_behind (y ∷ ys) x rest s =
    let first = behind (string_bytes y.0) (string_bytes x.0) (before_there (string_bytes y.0) ys x rest
    (sorted_head string_cmp y.0 (keys_of (ys ++ x ∷ rest)) s)) in
    rw first (ap (member (string_bytes y.0) (string (kind_name y.1)))
    (put_behind ys x rest (sorted_tail string_cmp y.0 (keys_of (ys ++ x ∷ rest)) s)))

-- a loop that puts one field after the other
pub put_next : (fields : Fields) (ys rest now : List Field) (x : Field) (d : Data) (before after : Members) → HasOrder fields → now ≡ x ∷ rest
    → ys ++ now ≡ fields.entries → d ≡ string (kind_name x.1) → before ≡ fields_json (fields_data ys) → after ≡ put (string_bytes x.0) d before
    → after ≡ fields_json (fields_data (ys ++ x ∷ []))
put_next fields ys rest now x d before after order step all value so_far more =
    let parts : ys ++ x ∷ rest ≡ fields.entries = ap (λ l. ys ++ l) (sym step) ∙ all in
    more ∙ ap (λ e. put (string_bytes x.0) e before) value ∙ ap (put (string_bytes x.0) (string (kind_name x.1))) so_far
    ∙ put_behind ys x rest (subst (λ es. IsStrictlySortedBy string_cmp (keys_of es)) (sym parts) order)

-- a loop that pushes one layer after the other
pub layers_next : (vs next : List Value) (v : Value) (es : List (String Global × LayerSummary)) (e : String Global × LayerSummary)
    → next ≡ vs ++ v ∷ [] → view v ≡ layer_json (layer_data e) → map view vs ≡ map layer_json (map layer_data es)
    → map view next ≡ map layer_json (map layer_data (es ++ e ∷ []))
layers_next vs next v es e more one so_far =
    rw (
      more,
      map-append view vs (v ∷ []),
      map-append layer_data es (e ∷ []),
      map-append layer_json (map layer_data es) (layer_data e ∷ []),
      so_far,
      one,
    ) refl

-- ---- no number is a float

fields_whole : (fs : List (List ℕ × FieldKind)) → members_have_float (fields_json fs) ≡ false
fields_whole [] = refl
fields_whole (f ∷ fs) = fields_whole fs

layers_whole : (ls : List LayerData) → items_have_float (items_of (map layer_json ls)) ≡ false
layers_whole [] = refl
layers_whole (l ∷ ls) = rw (fields_whole l.fields, layers_whole ls) refl

pub metadata_whole : (m : FeatureMap) (d : Data) → IsMetadata m d → has_float d ≡ false
metadata_whole m d (ls, are, is) = rw (is, layers_whole ls) refl

-- ---- the metadata is shallow

fields_shallow : (fs : List (List ℕ × FieldKind)) → members_depth (fields_json fs) ≡ 0
fields_shallow [] = refl
fields_shallow (f ∷ fs) = rw (fields_shallow fs) refl

layers_shallow : (ls : List LayerData) → items_depth (items_of (map layer_json ls)) ≤ 2
layers_shallow [] = omega arith
layers_shallow (l ∷ ls) = omega (arith, fields_shallow l.fields, layers_shallow ls)

pub metadata_shallow : (m : FeatureMap) (d : Data) → IsMetadata m d → depth d ≤ max_depth
metadata_shallow m d (ls, are, is) = subst (λ (j : Data). depth j ≤ max_depth) (sym is) (omega (arith, layers_shallow ls))

-- a text of the metadata, where there is one
pub text_of : (m : FeatureMap) (v : Data) (r : Result (String Global) AllocError) → IsMetadata m v
    → IfOk r (λ text. has_float v ≡ false → string_bytes text ≡ compact_text v)
    → IfOk r (λ text. depth v ≤ max_depth → read (string_bytes text) ≡ Some v)
    → IfOk r (λ text. (d : Data) × IsMetadata m d × (string_bytes text ≡ compact_text d) × (read (string_bytes text) ≡ Some d))
text_of m v (Ok text) is written reads = (v, is, written (metadata_whole m v is), reads (metadata_shallow m v is))
text_of m v (Err e) is written reads = tt

-- the object with the layers of the map, where there is one
pub metadata_of : (m : FeatureMap) (d : Data) (r : Result Value AllocError) → IsMetadata m d → IfOk r (λ v. view v ≡ d)
    → IfOk r (λ v. IsMetadata m (view v))
metadata_of m d (Ok v) (ls, are, is) same = (ls, are, same ∙ is)
metadata_of m d (Err e) is same = tt
