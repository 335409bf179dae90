-- Features that are summed up in turn.
use Rattle.std.proofs.Common.{◌≡◌, ℕ, ◌<◌, ◌+◌, min, max, List, [], ◌∷◌, ◌++◌, length, get_or, take, Bool, true, false, Option, Some, None}
use Rattle.std.proofs.Common.{refl, sym, ap, subst, ◌∙◌, arith, if◌then◌else◌}
use Rattle.std.specs.Str.{bytes_eq}
use Rattle.std.specs.List.{cons_option}
use Rattle.std.specs.Option.{UnwrapsOrElse, option_map, option_and_then}
use Rattle.std.specs.Ordering.{nat_cmp}
use Rattle.std.specs.Cmp.Lexicographic.{slice_cmp}
use Rattle.std.specs.BTreeMap.{is_at}
use Rattle.std.specs.Map.{lookup}
use Rattle.std.specs.String.{string_bytes}
use Rattle.std.proofs.lemmas.Slice.Eq.{bytes_eq-Decides}
use Rattle.std.proofs.lemmas.List.{take_more, append-nil, map-append}
use Rattle.std.proofs.lemmas.List.Concat.{flat_map-append}
use Rattle.std.proofs.lemmas.List.Elements.{filter_map-append}
use Rattle.number_map.specs.Blocks.{joined as all_of}
use Rattle.feature_model.specs.Data.{FeatureData, TagData}
use Rattle.feature_store.specs.Inside.{Stored, entry_data, entries_data}
use Rattle.feature_store.specs.Reading.{below}
use Rattle.feature_store.specs.Store.{FeatureMap}
use Rattle.feature_store.proofs.Reading.{none_below}
use Rattle.map_metadata.specs.declared.field_kind.FieldKind.{FieldKind}
use Rattle.map_metadata.specs.declared.summary.LayerSummary.{LayerSummary}
use Rattle.map_metadata.specs.Fields.{kind_of, kinds_of, features_in, kinds_in}
use Rattle.map_metadata.specs.Summaries.{joined, with_kind, with_kinds, with_feature, with_features}
use Rattle.map_metadata.specs.Summaries.{Fields, Layers, layer_at, kind_at, zooms_of, zooms_in, kind_in, Adds, SumsUp}

min_same : (n : ℕ) → min n n ≡ n
min_same n = omega arith

max_same : (n : ℕ) → max n n ≡ n
max_same n = omega arith

pub with_kinds-append : (o : Option FieldKind) (ks js : List FieldKind) → with_kinds o (ks ++ js) ≡ with_kinds (with_kinds o ks) js
with_kinds-append o [] js = refl
with_kinds-append o (k ∷ ks) js = with_kinds-append (Some (with_kind o k)) ks js

pub with_features-append : (o : Option (ℕ × ℕ)) (fs gs : List FeatureData) → with_features o (fs ++ gs) ≡ with_features (with_features o fs) gs
with_features-append o [] gs = refl
with_features-append o (f ∷ fs) gs = with_features-append (Some (with_feature o f)) fs gs

pub features_in-append : (m n : FeatureMap) (name : List ℕ) → features_in (m ++ n) name ≡ features_in m name ++ features_in n name
features_in-append m n name = filter_map-append (λ e. if bytes_eq e.1.layer name then Some e.1 else None) m n

kinds_in-append : (fs gs : List FeatureData) (key : List ℕ) → kinds_in (fs ++ gs) key ≡ kinds_in fs key ++ kinds_in gs key
kinds_in-append fs gs key = flat_map-append (λ f. kinds_of f.tags key) fs gs

-- the kind of a key, once a value more is taken in, and those of the values that are left
one_tag : (b : Bool) (o : Option FieldKind) (k : FieldKind) (ks : List FieldKind)
    → with_kinds (if b then Some (with_kind o k) else o) ks ≡ with_kinds o (cons_option (if b then Some k else None) ks)
one_tag true o k ks = refl
one_tag false o k ks = refl

-- the kinds of one tag more, and of the tags that are left
pub tags_more : (left rest : List TagData) (t : TagData) (name : List ℕ) (kind : FieldKind) (p q whole : Option FieldKind) → left ≡ t ∷ rest
    → kind ≡ kind_of t.value → q ≡ (if bytes_eq t.key name then Some (with_kind p kind) else p)
    → with_kinds p (kinds_of left name) ≡ whole → with_kinds q (kinds_of rest name) ≡ whole
tags_more left rest t name kind p q whole first kind_is after so_far =
    ap (λ o. with_kinds o (kinds_of rest name)) after
    ∙ ap (λ k. with_kinds (if bytes_eq t.key name then Some (with_kind p k) else p) (kinds_of rest name)) kind_is
    ∙ one_tag (bytes_eq t.key name) p (kind_of t.value) (kinds_of rest name)
    ∙ ap (λ ts. with_kinds p (kinds_of ts name)) (sym first) ∙ so_far

-- the kind of a key that has one, once a value more is taken in
pub kind_met : (old : Fields) (key name : List ℕ) (known kind : FieldKind) → Some known ≡ kind_at old key
    → (if bytes_eq key name then Some (joined known kind) else kind_at old name)
    ≡ (if bytes_eq key name then Some (with_kind (kind_at old name) kind) else kind_at old name)
kind_met old key name known kind found = by (bytes_eq key name) refl
  where
    by : (b : Bool) → bytes_eq key name ≡ b
        → (if b then Some (joined known kind) else kind_at old name) ≡ (if b then Some (with_kind (kind_at old name) kind) else kind_at old name)
    by true is = ap (λ o. Some (with_kind o kind)) (found ∙ ap (kind_at old) ((bytes_eq-Decides key name).0 is))
    by false is = refl

-- ---- one feature

-- a layer of which no feature is taken in, which begins with the zooms of this one
abbrev pub IsFresh : FeatureData → LayerSummary → Type 0
IsFresh f s = (s.minzoom ≡ f.minzoom) × (s.maxzoom ≡ f.maxzoom) × (s.fields.entries ≡ [])

-- the layer before is the one that is known, or a fresh one
module _ (old : Layers) (layer name : List ℕ) (f : FeatureData) (before after : LayerSummary)
    (was : UnwrapsOrElse (layer_at old layer) (IsFresh f) before) (same : bytes_eq layer name ≡ true) where
  -- the layer of the name as it was
  there : UnwrapsOrElse (layer_at old name) (IsFresh f) before
  there = subst (λ n. UnwrapsOrElse (layer_at old n) (IsFresh f) before) ((bytes_eq-Decides layer name).0 same) was

  pub zooms_after : after.minzoom ≡ min before.minzoom f.minzoom → after.maxzoom ≡ max before.maxzoom f.maxzoom
      → zooms_of after ≡ with_feature (zooms_in old name) f
  zooms_after least greatest = by (layer_at old name) there
    where
      by : (o : Option LayerSummary) → UnwrapsOrElse o (IsFresh f) before → zooms_of after ≡ with_feature (option_map zooms_of o) f
      by None fresh = λ i. (
        (least ∙ ap (λ n. min n f.minzoom) fresh.0 ∙ min_same f.minzoom) i,
        (greatest ∙ ap (λ n. max n f.maxzoom) fresh.1 ∙ max_same f.maxzoom) i,
      )
      by (Some s) is = λ i. ((least ∙ ap (λ s. min s.minzoom f.minzoom) is) i, (greatest ∙ ap (λ s. max s.maxzoom f.maxzoom) is) i)

  pub kind_after : (key : List ℕ) → kind_at after.fields key ≡ with_kinds (kind_at before.fields key) (kinds_of f.tags key)
      → kind_at after.fields key ≡ with_kinds (kind_in old name key) (kinds_of f.tags key ++ [])
  kind_after key kinds =
      kinds ∙ ap (λ o. with_kinds o (kinds_of f.tags key)) (by (layer_at old name) there)
      ∙ ap (with_kinds (kind_in old name key)) (sym (append-nil (kinds_of f.tags key)))
    where
      by : (o : Option LayerSummary) → UnwrapsOrElse o (IsFresh f) before → kind_at before.fields key ≡ option_and_then (λ s. kind_at s.fields key) o
      by None fresh = ap (λ es. lookup (is_at (λ k. slice_cmp nat_cmp key (string_bytes k))) es) fresh.2
      by (Some s) is = ap (λ s. kind_at s.fields key) is

-- what is known of a name: of its own layer, or of another
module _ (old new : Layers) (layer name : List ℕ) (f : FeatureData) (after : LayerSummary)
    (there : layer_at new name ≡ (if bytes_eq layer name then Some after else layer_at old name)) where
  pub feature_zooms : (bytes_eq layer name ≡ true → zooms_of after ≡ with_feature (zooms_in old name) f)
      → zooms_in new name ≡ with_features (zooms_in old name) (cons_option (if bytes_eq layer name then Some f else None) [])
  feature_zooms here = by (bytes_eq layer name) refl
    where
      by : (b : Bool) → bytes_eq layer name ≡ b
          → zooms_in new name ≡ with_features (zooms_in old name) (cons_option (if b then Some f else None) [])
      by true is = ap (option_map zooms_of) (there ∙ ap (λ b. if b then Some after else layer_at old name) is) ∙ ap Some (here is)
      by false is = ap (option_map zooms_of) (there ∙ ap (λ b. if b then Some after else layer_at old name) is)

  pub feature_kinds : (key : List ℕ)
      → (bytes_eq layer name ≡ true → kind_at after.fields key ≡ with_kinds (kind_in old name key) (kinds_of f.tags key ++ []))
      → kind_in new name key ≡ with_kinds (kind_in old name key) (kinds_in (cons_option (if bytes_eq layer name then Some f else None) []) key)
  feature_kinds key here = by (bytes_eq layer name) refl
    where
      by : (b : Bool) → bytes_eq layer name ≡ b
          → kind_in new name key ≡ with_kinds (kind_in old name key) (kinds_in (cons_option (if b then Some f else None) []) key)
      by true is = ap (option_and_then (λ s. kind_at s.fields key)) (there ∙ ap (λ b. if b then Some after else layer_at old name) is) ∙ here is
      by false is = ap (option_and_then (λ s. kind_at s.fields key)) (there ∙ ap (λ b. if b then Some after else layer_at old name) is)

-- ---- features

pub adds_more : (a b c : Layers) (m n : FeatureMap) → Adds a b m → Adds b c n → Adds a c (m ++ n)
adds_more a b c m n first second = record {
  zooms = λ name.
      second.zooms name ∙ ap (λ o. with_features o (features_in n name)) (first.zooms name)
      ∙ sym (with_features-append (zooms_in a name) (features_in m name) (features_in n name))
      ∙ ap (with_features (zooms_in a name)) (sym (features_in-append m n name));
  kinds = λ name key.
      second.kinds name key ∙ ap (λ o. with_kinds o (kinds_in (features_in n name) key)) (first.kinds name key)
      ∙ sym (with_kinds-append (kind_in a name key) (kinds_in (features_in m name) key) (kinds_in (features_in n name) key))
      ∙ ap (with_kinds (kind_in a name key)) (sym (kinds_in-append (features_in m name) (features_in n name) key))
      ∙ ap (λ fs. with_kinds (kind_in a name key) (kinds_in fs key)) (sym (features_in-append m n name));
}

pub sums_more : (b c : Layers) (m n : FeatureMap) → SumsUp b m → Adds b c n → SumsUp c (m ++ n)
sums_more b c m n first second = record {
  zooms = λ name.
      second.zooms name ∙ ap (λ o. with_features o (features_in n name)) (first.zooms name)
      ∙ sym (with_features-append None (features_in m name) (features_in n name))
      ∙ ap (with_features None) (sym (features_in-append m n name));
  kinds = λ name key.
      second.kinds name key ∙ ap (λ o. with_kinds o (kinds_in (features_in n name) key)) (first.kinds name key)
      ∙ sym (with_kinds-append None (kinds_in (features_in m name) key) (kinds_in (features_in n name) key))
      ∙ ap (with_kinds None) (sym (kinds_in-append (features_in m name) (features_in n name) key))
      ∙ ap (λ fs. with_kinds None (kinds_in fs key)) (sym (features_in-append m n name));
}

-- the first entries, and the feature of one more
pub entries_more : (a b c : Layers) (es : List (ℕ × Stored)) (i : ℕ) (e : ℕ × Stored) (f : FeatureData) → i < length es → e ≡ get_or es i e
    → f ≡ (entry_data e).1 → Adds a b (entries_data (take i es)) → Adds b c ((0, f) ∷ []) → Adds a c (entries_data (take (i + 1) es))
entries_more a b c es i e f lt is shown first second =
    let of_entry = subst (λ g. Adds b c ((0, g) ∷ [])) shown second in
    rw (take_more es i e lt, ← is, map-append)
    (adds_more a b c (entries_data (take i es)) (entry_data e ∷ []) first (record { zooms = of_entry.zooms; kinds = of_entry.kinds }))

pub blocks_more : (b c : Layers) (bs : List (List (ℕ × Stored))) (i : ℕ) (es there : List (ℕ × Stored)) → i < length bs → es ≡ get_or bs i es
    → there ≡ es → SumsUp b (entries_data (all_of (take i bs))) → Adds b c (entries_data there) → SumsUp c (entries_data (all_of (take (i + 1) bs)))
blocks_more b c bs i es there lt is same first second =
    rw (take_more bs i es lt, ← is, flat_map-append, append-nil, map-append)
    (sums_more b c (entries_data (all_of (take i bs))) (entries_data es) first (subst (λ x. Adds b c (entries_data x)) same second))

-- ---- a moment's features

-- those of a number more
pub read_more : (b c : Layers) (m : FeatureMap) (n k : ℕ) (had : FeatureMap) → below (k + 1) m ≡ below n m ++ had → SumsUp b (below n m) → Adds b c had
    → SumsUp c (below (k + 1) m)
read_more b c m n k had next first second = subst (SumsUp c) (sym next) (sums_more b c (below n m) had first second)

pub nothing_read : (layers : Layers) (m : FeatureMap) → layers.entries ≡ [] → SumsUp layers (below 0 m)
nothing_read layers m none =
    subst (SumsUp layers) (sym (none_below m)) (record {
      zooms = λ name. ap (λ es. option_map zooms_of (lookup (is_at (λ k. slice_cmp nat_cmp name (string_bytes k))) es)) none;
      kinds = λ name key. ap (λ es. option_and_then (λ s. kind_at s.fields key) (lookup (is_at (λ k. slice_cmp nat_cmp name (string_bytes k))) es)) none;
    })
