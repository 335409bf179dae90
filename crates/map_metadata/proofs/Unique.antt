-- A map has at most one metadata.
use Rattle.std.proofs.Common.{◌≡◌, ◌↔◌, ℕ, ◌<◌, ◌≤◌, List, [], ◌∷◌, length, map, All, inl, inr, refl, sym, ap, subst, ◌∙◌, arith}
use Rattle.std.specs.List.{Contains}
use Rattle.std.specs.Ordering.{nat_cmp, ordering_reverse}
use Rattle.std.specs.declared.cmp.Ordering.TheVariants.{Less}
use Rattle.std.specs.Cmp.Lexicographic.{slice_cmp}
use Rattle.std.specs.Map.{keys_of}
use Rattle.std.proofs.lemmas.Cmp.{nat_list_cmp_total}
use Rattle.std.proofs.lemmas.List.Elements.{All-nil, All-cons, All-head, All-tail, All-contains, All-from_recursion}
use Rattle.std.proofs.lemmas.Map.Keys.{sorted_head, sorted_tail}
use Rattle.serde_json.specs.Data.{Data}
use Rattle.feature_model.specs.Data.{FeatureData}
use Rattle.feature_store.specs.Store.{FeatureMap}
use Rattle.map_metadata.specs.declared.field_kind.FieldKind.{FieldKind}
use Rattle.map_metadata.specs.Fields.{features_in, kinds_in, IsKey, IsFieldKind, IsLeast, IsGreatest}
use Rattle.map_metadata.specs.Metadata.{LayerData, Ascend, IsLayer, AreLayers, layers_json, IsMetadata}
use Rattle.map_metadata.proofs.Known.{contains_here, contains_on, contains_cases, none_there, some_keyed}

-- ---- lists in the order of their names

-- byte by byte, no name is before itself
before_itself : (n : List ℕ) → slice_cmp nat_cmp n n ≡ Less → ⊥
before_itself n h = let turned : slice_cmp nat_cmp n n ≡ ordering_reverse (slice_cmp nat_cmp n n) = nat_list_cmp_total.antisymm n n in
    let same : Less ≡ ordering_reverse Less = sym h ∙ turned ∙ ap ordering_reverse h in cc

-- the first of ascending names is before the others
first_before : (n : List ℕ) (ns : List (List ℕ)) (x : List ℕ) → Ascend (n ∷ ns) → Contains ns x → slice_cmp nat_cmp n x ≡ Less
first_before n ns x s h =
    All-contains (λ y. slice_cmp nat_cmp n y ≡ Less) ns x (All-from_recursion (λ y. slice_cmp nat_cmp n y ≡ Less) ns (sorted_head (slice_cmp nat_cmp) n ns s)) h

-- lists of the same ascending names are one, where what they have of a name is one
module _ {X : Type 0} (name : X → List ℕ) (P : X → Type 0) (one : (x y : X) → P x → P y → name x ≡ name y → x ≡ y) where
  pub one_list : (ks ls : List X) → Ascend (map name ks) → Ascend (map name ls) → All P ks → All P ls
      → ((n : List ℕ) → Contains (map name ks) n → Contains (map name ls) n) → ((n : List ℕ) → Contains (map name ls) n → Contains (map name ks) n) → ks ≡ ls
  one_list [] [] sk sl pk pl ab ba = refl
  one_list [] (b ∷ ls) sk sl pk pl ab ba = none_there (name b) (ba (name b) (contains_here (name b) (map name ls)))
  one_list (a ∷ ks) [] sk sl pk pl ab ba = none_there (name a) (ab (name a) (contains_here (name a) (map name ks)))
  one_list (a ∷ ks) (b ∷ ls) sk sl pk pl ab ba =
      let same : name a ≡ name b = elim (contains_cases (name b) (map name ls) (name a) (ab (name a) (contains_here (name a) (map name ks)))) [
        | inl e ↦ sym e
        | inr in_b ↦ elim (contains_cases (name a) (map name ks) (name b) (ba (name b) (contains_here (name b) (map name ls)))) [
          | inl e ↦ e
          | inr in_a ↦
              absurd (before_itself (name a)
              (nat_list_cmp_total.trans (name a) (name b) (name a) (first_before (name a) (map name ks) (name b) sk in_a)
              (first_before (name b) (map name ls) (name a) sl in_b)))
        ]
      ] in
      let ab_rest : (n : List ℕ) → Contains (map name ks) n → Contains (map name ls) n =
      λ n h. elim (contains_cases (name b) (map name ls) n (ab n (contains_on (name a) (map name ks) n h))) [
        | inl e ↦ absurd (before_itself n (subst (λ p. slice_cmp nat_cmp p n ≡ Less) (same ∙ e) (first_before (name a) (map name ks) n sk h)))
        | inr in_b ↦ in_b
      ] in
      let ba_rest : (n : List ℕ) → Contains (map name ls) n → Contains (map name ks) n =
      λ n h. elim (contains_cases (name a) (map name ks) n (ba n (contains_on (name b) (map name ls) n h))) [
        | inl e ↦ absurd (before_itself n (subst (λ p. slice_cmp nat_cmp p n ≡ Less) (sym same ∙ e) (first_before (name b) (map name ls) n sl h)))
        | inr in_a ↦ in_a
      ] in
      let first : a ≡ b = one a b (All-head P a ks pk) (All-head P b ls pl) same in
      let rest : ks ≡ ls =
      one_list ks ls (sorted_tail (slice_cmp nat_cmp) (name a) (map name ks) sk) (sorted_tail (slice_cmp nat_cmp) (name b) (map name ls) sl)
      (All-tail P a ks pk) (All-tail P b ls pl) ab_rest ba_rest in
      λ i. first i ∷ rest i

-- ---- kinds and zooms

one_kind : (kinds : List FieldKind) (j k : FieldKind) → 0 < length kinds → IsFieldKind kinds j → IsFieldKind kinds k → j ≡ k
one_kind [] j k some is_j is_k = absurd (omega (arith, some))
one_kind (l ∷ ls) j k some (inl all) (inl every) = sym (All-head (λ x. x ≡ j) l ls all) ∙ All-head (λ x. x ≡ k) l ls every
one_kind (l ∷ ls) j k some (inl all) (inr h) = absurd (h.0 j all)
one_kind (l ∷ ls) j k some (inr h) (inl every) = absurd (h.0 k every)
one_kind (l ∷ ls) j k some (inr h) (inr g) = h.1 ∙ sym g.1

one_least : (ns : List ℕ) (a b : ℕ) → IsLeast ns a → IsLeast ns b → a ≡ b
one_least ns a b is_a is_b =
    let up = All-contains (λ k. a ≤ k) ns b is_a.least is_b.among in
    let down = All-contains (λ k. b ≤ k) ns a is_b.least is_a.among in
    omega (arith, up, down)

one_greatest : (ns : List ℕ) (a b : ℕ) → IsGreatest ns a → IsGreatest ns b → a ≡ b
one_greatest ns a b is_a is_b =
    let up = All-contains (λ k. k ≤ a) ns b is_a.greatest is_b.among in
    let down = All-contains (λ k. k ≤ b) ns a is_b.greatest is_a.among in
    omega (arith, up, down)

-- ---- the fields of a layer

module _ (fs : List FeatureData) where
  -- a key of the features, with its kind
  abbrev IsField : List ℕ × FieldKind → Type 0
  IsField f = IsKey fs f.0 × IsFieldKind (kinds_in fs f.0) f.1

  one_field : (f g : List ℕ × FieldKind) → IsField f → IsField g → f.0 ≡ g.0 → f ≡ g
  one_field f g is_f is_g same =
      let kind : f.1 ≡ g.1 =
      one_kind (kinds_in fs f.0) f.1 g.1 (some_keyed fs f.0 is_f.0) is_f.1 (subst (λ k. IsFieldKind (kinds_in fs k) g.1) (sym same) is_g.1) in
      λ i. (same i, kind i)

  are_fields : (gs : List (List ℕ × FieldKind)) → ((key : List ℕ) → Contains (keys_of gs) key → IsKey fs key)
      → All (λ f. IsFieldKind (kinds_in fs f.0) f.1) gs → All IsField gs
  are_fields [] keys kinds = All-nil IsField
  are_fields (g ∷ gs) keys kinds =
      All-cons IsField g gs (keys g.0 (contains_here g.0 (keys_of gs)), All-head (λ f. IsFieldKind (kinds_in fs f.0) f.1) g gs kinds)
      (are_fields gs (λ key h. keys key (contains_on g.0 (keys_of gs) key h)) (All-tail (λ f. IsFieldKind (kinds_in fs f.0) f.1) g gs kinds))

  one_fields : (gs hs : List (List ℕ × FieldKind)) → Ascend (keys_of gs) → Ascend (keys_of hs)
      → ((key : List ℕ) → Contains (keys_of gs) key ↔ IsKey fs key) → ((key : List ℕ) → Contains (keys_of hs) key ↔ IsKey fs key)
      → All (λ f. IsFieldKind (kinds_in fs f.0) f.1) gs → All (λ f. IsFieldKind (kinds_in fs f.0) f.1) hs → gs ≡ hs
  one_fields gs hs sg sh kg kh ig ih =
      one_list (λ f. f.0) IsField one_field gs hs sg sh (are_fields gs (λ key. (kg key).0) ig) (are_fields hs (λ key. (kh key).0) ih)
      (λ key h. (kh key).1 ((kg key).0 h)) (λ key h. (kg key).1 ((kh key).0 h))

-- ---- layers

one_layer : (m : FeatureMap) (k l : LayerData) → IsLayer m k → IsLayer m l → k.name ≡ l.name → k ≡ l
one_layer m k l is_k is_l same =
    let ks = features_in m k.name in
    let alike : features_in m l.name ≡ ks = ap (features_in m) (sym same) in
    let fields : k.fields ≡ l.fields =
    one_fields ks k.fields l.fields is_k.ascending is_l.ascending is_k.keys
    (subst (λ fs. (key : List ℕ) → Contains (keys_of l.fields) key ↔ IsKey fs key) alike is_l.keys) is_k.kinds
    (subst (λ fs. All (λ f. IsFieldKind (kinds_in fs f.0) f.1) l.fields) alike is_l.kinds) in
    let minzoom : k.minzoom ≡ l.minzoom =
    one_least (map (λ f. f.minzoom) ks) k.minzoom l.minzoom is_k.minzoom (subst (λ fs. IsLeast (map (λ f. f.minzoom) fs) l.minzoom) alike is_l.minzoom) in
    let maxzoom : k.maxzoom ≡ l.maxzoom =
    one_greatest (map (λ f. f.maxzoom) ks) k.maxzoom l.maxzoom is_k.maxzoom (subst (λ fs. IsGreatest (map (λ f. f.maxzoom) fs) l.maxzoom) alike is_l.maxzoom) in
    λ i. record { name = same i; fields = fields i; minzoom = minzoom i; maxzoom = maxzoom i }

pub one_layers : (m : FeatureMap) (ks ls : List LayerData) → AreLayers m ks → AreLayers m ls → ks ≡ ls
one_layers m ks ls are_k are_l =
    one_list (λ l. l.name) (IsLayer m) (one_layer m) ks ls are_k.ascending are_l.ascending are_k.layers are_l.layers
    (λ name h. (are_l.names name).1 ((are_k.names name).0 h)) (λ name h. (are_k.names name).1 ((are_l.names name).0 h))

-- two values that are the metadata of a map are one
pub one_metadata : (m : FeatureMap) (c d : Data) → IsMetadata m c → IsMetadata m d → c ≡ d
one_metadata m c d (ks, are_k, is_c) (ls, are_l, is_d) = is_c ∙ ap layers_json (one_layers m ks ls are_k are_l) ∙ sym is_d
