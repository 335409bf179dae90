-- What is summed up of a map are its layers.
use Rattle.std.proofs.Common.{◌≡◌, ◌↔◌, ℕ, ◌<◌, ◌≤◌, Bool, true, false, cond, List, [], ◌∷◌, length, map, All, Option, Some, None, inl, inr}
use Rattle.std.proofs.Common.{min, max, is_some, refl, sym, ap, subst, ◌∙◌, arith}
use mathlib.Core.Bool.{false≢true}
use Rattle.std.specs.List.{Contains, AllByRecursion}
use Rattle.std.specs.List.Sorted.{IsStrictlySortedBy}
use Rattle.std.specs.Option.{option_map, option_and_then}
use Rattle.std.specs.Ordering.{nat_cmp, is_eq}
use Rattle.std.specs.declared.cmp.Ordering.TheVariants.{Less}
use Rattle.std.specs.Cmp.Lexicographic.{slice_cmp}
use Rattle.std.specs.BTreeMap.{is_at, IsOrdered}
use Rattle.std.specs.Map.{keys_of, lookup}
use Rattle.std.specs.String.{string_bytes, string_cmp, string_cmp_total}
use Rattle.std.specs.declared.alloc.Global.{Global}
use Rattle.std.specs.declared.string.String.{String}
use Rattle.std.proofs.lemmas.Bool.{cases_lt}
use Rattle.std.proofs.lemmas.Cmp.{nat_list_cmp_total}
use Rattle.std.proofs.lemmas.List.Elements.{All-nil, All-cons, All-head, All-tail, All-map, All-weaker}
use Rattle.std.proofs.lemmas.Slice.Eq.{bytes_eq-Decides}
use Rattle.std.proofs.lemmas.Map.Text.{is_eq-slice_cmp}
use Rattle.std.proofs.lemmas.Map.Views.{All-found}
use Rattle.feature_model.specs.Data.{FeatureData}
use Rattle.feature_store.specs.Store.{FeatureMap}
use Rattle.map_metadata.specs.declared.field_kind.FieldKind.{FieldKind}
use Rattle.map_metadata.specs.declared.field_kind.FieldKind.TheVariants.{Text, Number, Truth}
use Rattle.map_metadata.specs.declared.summary.LayerSummary.{LayerSummary}
use Rattle.map_metadata.specs.Fields.{features_in, IsLayerName, kinds_in, IsKey, Differ, IsFieldKind, IsLeast, IsGreatest}
use Rattle.map_metadata.specs.Metadata.{Ascend, names_of, IsLayer, AreLayers}
use Rattle.map_metadata.specs.Summaries.{joined, with_kinds, with_feature, with_features, kind_at, layer_at, zooms_of, Layers, SumsUp}
use Rattle.map_metadata.proofs.Known.{contains_here, contains_on, contains_cases, none_there, named, some_named, keyed, some_keyed}
use Rattle.map_metadata.specs.Summaries.{fields_data, layer_data, HasOrder}

-- ---- kinds

differ_behind : (j k : FieldKind) (ks : List FieldKind) → Differ (j ∷ ks) → Differ (j ∷ k ∷ ks)
differ_behind j k ks differ kind all =
    differ kind (All-cons (λ l. l ≡ kind) j ks (All-head (λ l. l ≡ kind) j (k ∷ ks) all)
    (All-tail (λ l. l ≡ kind) k ks (All-tail (λ l. l ≡ kind) j (k ∷ ks) all)))

differ_two : (j k : FieldKind) (ks : List FieldKind) → (j ≡ k → ⊥) → Differ (j ∷ k ∷ ks)
differ_two j k ks two kind all =
    two (All-head (λ l. l ≡ kind) j (k ∷ ks) all ∙ sym (All-head (λ l. l ≡ kind) k ks (All-tail (λ l. l ≡ kind) j (k ∷ ks) all)))

-- two values of one kind are as one
same_two : (j : FieldKind) (ks : List FieldKind) (kind : FieldKind) → IsFieldKind (j ∷ ks) kind → IsFieldKind (j ∷ j ∷ ks) kind
same_two j ks kind (inl all) = inl (All-cons (λ l. l ≡ kind) j (j ∷ ks) (All-head (λ l. l ≡ kind) j ks all) all)
same_two j ks kind (inr h) = inr (differ_behind j j ks h.0, h.1)

-- two values of two kinds are text
text_two : (j k : FieldKind) (ks : List FieldKind) (kind : FieldKind) → (j ≡ k → ⊥) → IsFieldKind (Text ∷ ks) kind → IsFieldKind (j ∷ k ∷ ks) kind
text_two j k ks kind two (inl all) = inr (differ_two j k ks two, sym (All-head (λ l. l ≡ kind) Text ks all))
text_two j k ks kind two (inr h) = inr (differ_two j k ks two, h.1)

kind_two : (j k : FieldKind) (ks : List FieldKind) (kind : FieldKind) → IsFieldKind (joined j k ∷ ks) kind → IsFieldKind (j ∷ k ∷ ks) kind
kind_two Text Text ks kind h = same_two Text ks kind h
kind_two Text Number ks kind h = text_two Text Number ks kind (λ e. cc) h
kind_two Text Truth ks kind h = text_two Text Truth ks kind (λ e. cc) h
kind_two Number Text ks kind h = text_two Number Text ks kind (λ e. cc) h
kind_two Number Number ks kind h = same_two Number ks kind h
kind_two Number Truth ks kind h = text_two Number Truth ks kind (λ e. cc) h
kind_two Truth Text ks kind h = text_two Truth Text ks kind (λ e. cc) h
kind_two Truth Number ks kind h = text_two Truth Number ks kind (λ e. cc) h
kind_two Truth Truth ks kind h = same_two Truth ks kind h

kind_from : (j : FieldKind) (ks : List FieldKind) (kind : FieldKind) → with_kinds (Some j) ks ≡ Some kind → IsFieldKind (j ∷ ks) kind
kind_from j [] kind is = let e : j ≡ kind = cc in inl (All-cons (λ l. l ≡ kind) j [] e (All-nil (λ l. l ≡ kind)))
kind_from j (k ∷ ks) kind is = kind_two j k ks kind (kind_from (joined j k) ks kind is)

pub kind_is : (ks : List FieldKind) (kind : FieldKind) → with_kinds None ks ≡ Some kind → IsFieldKind ks kind
kind_is [] kind is = cc
kind_is (k ∷ ks) kind is = kind_from k ks kind is

some_kinds : (j : FieldKind) (ks : List FieldKind) → is_some (with_kinds (Some j) ks) ≡ true
some_kinds j [] = refl
some_kinds j (k ∷ ks) = some_kinds (joined j k) ks

pub kinds_some : (ks : List FieldKind) → (is_some (with_kinds None ks) ≡ true) ↔ (0 < length ks)
kinds_some [] = (λ h. absurd (false≢true h), λ h. absurd (omega (arith, h)))
kinds_some (k ∷ ks) = (λ h. omega arith, λ h. some_kinds k ks)

-- ---- zooms

least_two : (a b : ℕ) (ns : List ℕ) (n : ℕ) → IsLeast (min a b ∷ ns) n → IsLeast (a ∷ b ∷ ns) n
least_two a b ns n is = record {
  among = elim (contains_cases (min a b) ns n is.among) [
    | inl e ↦ elim (cases_lt a b) [
      | inl lt ↦ subst (Contains (a ∷ b ∷ ns)) (let same : a ≡ n = omega (arith, lt, e) in same) (contains_here a (b ∷ ns))
      | inr le ↦ subst (Contains (a ∷ b ∷ ns)) (let same : b ≡ n = omega (arith, le, e) in same) (contains_on a (b ∷ ns) b (contains_here b ns))
    ]
    | inr there ↦ contains_on a (b ∷ ns) n (contains_on b ns n there)
  ];
  least =
      let first = All-head (λ k. n ≤ k) (min a b) ns is.least in
      All-cons (λ k. n ≤ k) a (b ∷ ns) (omega (arith, first))
      (All-cons (λ k. n ≤ k) b ns (omega (arith, first)) (All-tail (λ k. n ≤ k) (min a b) ns is.least));
}

greatest_two : (a b : ℕ) (ns : List ℕ) (n : ℕ) → IsGreatest (max a b ∷ ns) n → IsGreatest (a ∷ b ∷ ns) n
greatest_two a b ns n is = record {
  among = elim (contains_cases (max a b) ns n is.among) [
    | inl e ↦ elim (cases_lt a b) [
      | inl lt ↦ subst (Contains (a ∷ b ∷ ns)) (let same : b ≡ n = omega (arith, lt, e) in same) (contains_on a (b ∷ ns) b (contains_here b ns))
      | inr le ↦ subst (Contains (a ∷ b ∷ ns)) (let same : a ≡ n = omega (arith, le, e) in same) (contains_here a (b ∷ ns))
    ]
    | inr there ↦ contains_on a (b ∷ ns) n (contains_on b ns n there)
  ];
  greatest =
      let first = All-head (λ k. k ≤ n) (max a b) ns is.greatest in
      All-cons (λ k. k ≤ n) a (b ∷ ns) (omega (arith, first))
      (All-cons (λ k. k ≤ n) b ns (omega (arith, first)) (All-tail (λ k. k ≤ n) (max a b) ns is.greatest));
}

-- the zooms of features, from those of the first
abbrev AreZooms : List FeatureData → ℕ × ℕ → Type 0
AreZooms fs w = IsLeast (map (λ f. f.minzoom) fs) w.0 × IsGreatest (map (λ f. f.maxzoom) fs) w.1

zooms_from : (z : ℕ × ℕ) (fs : List FeatureData) (w : ℕ × ℕ) → with_features (Some z) fs ≡ Some w
    → IsLeast (z.0 ∷ map (λ f. f.minzoom) fs) w.0 × IsGreatest (z.1 ∷ map (λ f. f.maxzoom) fs) w.1
zooms_from z [] w is =
    let e : z ≡ w = cc in
    let least : z.0 ≡ w.0 = ap (λ p. p.0) e in
    let greatest : z.1 ≡ w.1 = ap (λ p. p.1) e in (
      record { among = (0, omega arith, least); least = All-cons (λ k. w.0 ≤ k) z.0 [] (omega (arith, least)) (All-nil (λ k. w.0 ≤ k)) },
      record { among = (0, omega arith, greatest); greatest = All-cons (λ k. k ≤ w.1) z.1 [] (omega (arith, greatest)) (All-nil (λ k. k ≤ w.1)) },
    )
zooms_from z (f ∷ fs) w is =
    let rest = zooms_from (with_feature (Some z) f) fs w is in (
      least_two z.0 f.minzoom (map (λ g. g.minzoom) fs) w.0 rest.0,
      greatest_two z.1 f.maxzoom (map (λ g. g.maxzoom) fs) w.1 rest.1,
    )

zooms_are : (fs : List FeatureData) (w : ℕ × ℕ) → with_features None fs ≡ Some w → AreZooms fs w
zooms_are [] w is = cc
zooms_are (f ∷ fs) w is = zooms_from (f.minzoom, f.maxzoom) fs w is

some_features : (z : ℕ × ℕ) (fs : List FeatureData) → is_some (with_features (Some z) fs) ≡ true
some_features z [] = refl
some_features z (f ∷ fs) = some_features (with_feature (Some z) f) fs

features_some : (fs : List FeatureData) → (is_some (with_features None fs) ≡ true) ↔ (0 < length fs)
features_some [] = (λ h. absurd (false≢true h), λ h. absurd (omega (arith, h)))
features_some (f ∷ fs) = (λ h. omega arith, λ h. some_features (f.minzoom, f.maxzoom) fs)

-- ---- keys

-- whether a key is the name
abbrev is_name : List ℕ → String Global → Bool
is_name name = is_at (λ k. slice_cmp nat_cmp name (string_bytes k))

same_name : (name other : List ℕ) → is_eq (slice_cmp nat_cmp name other) ≡ true → name ≡ other
same_name name other h = (bytes_eq-Decides name other).0 (sym (is_eq-slice_cmp name other) ∙ h)

one_name : (name other : List ℕ) → name ≡ other → is_eq (slice_cmp nat_cmp name other) ≡ true
one_name name other h = is_eq-slice_cmp name other ∙ (bytes_eq-Decides name other).1 h

module _ {X : Type 0} where
  -- the names that are keys
  abbrev pub names : List (String Global × X) → List (List ℕ)
  names es = map (λ e. (string_bytes e.0)) es

  found_there : (es : List (String Global × X)) (name : List ℕ) → is_some (lookup (is_name name) es) ≡ true → Contains (names es) name
  found_there [] name h = absurd (false≢true h)
  found_there (e ∷ es) name h = by (is_name name e.0) refl (found_there es name)
    where
      by : (b : Bool) → is_name name e.0 ≡ b → (is_some (lookup (is_name name) es) ≡ true → Contains (names es) name) → Contains (names (e ∷ es)) name
      by true is rest = subst (Contains (names (e ∷ es))) (sym (same_name name (string_bytes e.0) is)) (contains_here (string_bytes e.0) (names es))
      by false is rest = contains_on (string_bytes e.0) (names es) name (rest (sym (ap (λ b. is_some (cond b (Some e.1) (lookup (is_name name) es))) is) ∙ h))

  there_found : (es : List (String Global × X)) (name : List ℕ) → Contains (names es) name → is_some (lookup (is_name name) es) ≡ true
  there_found [] name h = none_there name h
  there_found (e ∷ es) name h = by (is_name name e.0) refl (there_found es name)
    where
      by : (b : Bool) → is_name name e.0 ≡ b → (Contains (names es) name → is_some (lookup (is_name name) es) ≡ true)
          → is_some (lookup (is_name name) (e ∷ es)) ≡ true
      by true is rest = ap (λ b. is_some (cond b (Some e.1) (lookup (is_name name) es))) is
      by false is rest =
          ap (λ b. is_some (cond b (Some e.1) (lookup (is_name name) es))) is
          ∙ elim (contains_cases (string_bytes e.0) (names es) name h) [
            | inl here ↦ absurd (false≢true (sym is ∙ one_name name (string_bytes e.0) (sym here)))
            | inr there ↦ rest there
          ]

  ascend : (es : List (String Global × X)) → IsStrictlySortedBy string_cmp (keys_of es) → Ascend (names es)
  unfolding IsStrictlySortedBy
  ascend [] s = tt
  ascend (e ∷ es) s = (along es s.0, ascend es s.1)
    where
      along : (fs : List (String Global × X)) → AllByRecursion (λ k. slice_cmp nat_cmp (string_bytes e.0) (string_bytes k) ≡ Less) (keys_of fs)
          → AllByRecursion (λ n. slice_cmp nat_cmp (string_bytes e.0) n ≡ Less) (names fs)
      along [] a = tt
      along (f ∷ fs) a = (a.0, along fs a.1)

keys_are : (es : List (String Global × FieldKind)) → keys_of (fields_data es) ≡ names es
keys_are [] = refl
keys_are (e ∷ es) = ap (λ ks. (string_bytes e.0) ∷ ks) (keys_are es)

names_are : (es : List (String Global × LayerSummary)) → names_of (map layer_data es) ≡ names es
names_are [] = refl
names_are (e ∷ es) = ap (λ ks. (string_bytes e.0) ∷ ks) (names_are es)

some_zooms : (o : Option LayerSummary) → is_some (option_map zooms_of o) ≡ is_some o
some_zooms None = refl
some_zooms (Some s) = refl

-- ---- all of it

module _ (m : FeatureMap) (g : Layers) (sums : SumsUp g m) where
  -- what a name finds is what is there, and its keys ascend
  abbrev IsFound : String Global × LayerSummary → Type 0
  IsFound e = layer_at g (string_bytes e.0) ≡ Some e.1

  kinds_at : (e : String Global × LayerSummary) → IsFound e → (key : List ℕ) → kind_at e.1.fields key
      ≡ with_kinds None (kinds_in (features_in m (string_bytes e.0)) key)
  kinds_at e is key = sym (ap (option_and_then (λ s. kind_at s.fields key)) is) ∙ sums.kinds (string_bytes e.0) key

  kinds_of_layer : (e : String Global × LayerSummary) → IsFound e → HasOrder e.1.fields
      → All (λ f. IsFieldKind (kinds_in (features_in m (string_bytes e.0)) f.0) f.1) (fields_data e.1.fields.entries)
  kinds_of_layer e is order =
      All-map (λ f. IsFieldKind (kinds_in (features_in m (string_bytes e.0)) f.0) f.1) (λ f. ((string_bytes f.0), f.1)) e.1.fields.entries
      (All-weaker (λ f. kind_at e.1.fields (string_bytes f.0) ≡ Some f.1)
      (λ f. IsFieldKind (kinds_in (features_in m (string_bytes e.0)) (string_bytes f.0)) f.1)
      (λ f here. kind_is (kinds_in (features_in m (string_bytes e.0)) (string_bytes f.0)) f.1 (sym (kinds_at e is (string_bytes f.0)) ∙ here))
      e.1.fields.entries
      (All-found string_cmp_total e.1.fields order))

  keys_of_layer : (e : String Global × LayerSummary) → IsFound e → (key : List ℕ)
      → Contains (keys_of (fields_data e.1.fields.entries)) key ↔ IsKey (features_in m (string_bytes e.0)) key
  keys_of_layer e is key =
      let some = ap is_some (kinds_at e is key) in
      let fs = features_in m (string_bytes e.0) in
      let known = kinds_some (kinds_in fs key) in (
        λ h. keyed fs key (known.0 (sym some ∙ there_found e.1.fields.entries key (subst (λ ks. Contains ks key) (keys_are e.1.fields.entries) h))),
        λ h. subst (λ ks. Contains ks key) (sym (keys_are e.1.fields.entries)) (found_there e.1.fields.entries key (some ∙ known.1 (some_keyed fs key h))),
      )

  layer_is : (e : String Global × LayerSummary) → IsFound e → HasOrder e.1.fields → IsLayer m (layer_data e)
  layer_is e is order =
      let zooms = zooms_are (features_in m (string_bytes e.0)) (zooms_of e.1) (sym (sums.zooms (string_bytes e.0)) ∙ ap (option_map zooms_of) is) in
      record {
        ascending = subst Ascend (sym (keys_are e.1.fields.entries)) (ascend e.1.fields.entries order);
        keys = keys_of_layer e is;
        kinds = kinds_of_layer e is order;
        minzoom = zooms.0;
        maxzoom = zooms.1;
      }

  all_layers : (es : List (String Global × LayerSummary)) → All IsFound es → All (λ e. HasOrder e.1.fields) es → All (IsLayer m) (map layer_data es)
  all_layers [] found orders = All-nil (IsLayer m)
  all_layers (e ∷ es) found orders =
      All-cons (IsLayer m) (layer_data e) (map layer_data es)
      (layer_is e (All-head IsFound e es found) (All-head (λ d. HasOrder d.1.fields) e es orders))
      (all_layers es (All-tail IsFound e es found) (All-tail (λ d. HasOrder d.1.fields) e es orders))

  names_known : (name : List ℕ) → Contains (names_of (map layer_data g.entries)) name ↔ IsLayerName m name
  names_known name =
      let some = sym (some_zooms (layer_at g name)) ∙ ap is_some (sums.zooms name) in
      let known = features_some (features_in m name) in (
        λ h. named m name (known.0 (sym some ∙ there_found g.entries name (subst (λ ks. Contains ks name) (names_are g.entries) h))),
        λ h. subst (λ ks. Contains ks name) (sym (names_are g.entries)) (found_there g.entries name (some ∙ known.1 (some_named m name h))),
      )

  pub are_layers : All (λ e. HasOrder e.1.fields) g.entries → IsOrdered string_cmp g → AreLayers m (map layer_data g.entries)
  are_layers orders ordered = record {
    ascending = subst Ascend (sym (names_are g.entries)) (ascend g.entries ordered);
    names = names_known;
    layers = all_layers g.entries (All-found string_cmp_total g ordered) orders;
  }
