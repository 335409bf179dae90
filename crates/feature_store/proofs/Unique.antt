-- A map has one list of layers at a tile.
use Rattle.std.proofs.Common.{◌≡◌, ℕ, ◌<◌, ◌≤◌, ◌^◌, Bool, true, false, List, [], ◌∷◌, length, Option, Some, None, IsSome, is_some, All, inl, inr, refl, sym}
use Rattle.std.proofs.Common.{ap, subst, ◌∙◌, arith}
use Rattle.std.specs.Str.{bytes_eq}
use Rattle.std.specs.List.{Contains}
use Rattle.std.specs.List.Sorted.{IsStrictlySortedBy}
use Rattle.std.specs.Ordering.{nat_cmp, ordering_reverse}
use Rattle.std.specs.declared.cmp.Ordering.TheVariants.{Less}
use Rattle.std.specs.Cmp.Lexicographic.{slice_cmp}
use Rattle.std.proofs.lemmas.Bool.Decides.{nat_tests}
use Rattle.std.proofs.lemmas.Cmp.{nat_list_cmp_total}
use Rattle.std.proofs.lemmas.List.Elements.{All-head, All-tail, All-map, All-weaker, All-contains, All-from_recursion, Contains-append_right}
use Rattle.std.proofs.lemmas.Map.Keys.{sorted_head, sorted_tail}
use Rattle.std.proofs.lemmas.Slice.Eq.{bytes_eq-Decides}
use Rattle.feature_model.specs.declared.limits.TheConstants.{MAX_ZOOM}
use Rattle.mvt_layer.specs.Tile.{FeatureView, LayerView}
use Rattle.tile_cutter.specs.Cut.{feature_cut}
use Rattle.feature_store.specs.Store.{FeatureMap}
use Rattle.feature_store.specs.Layers.{cuts_of, is_tile, layer_names, layers, names_of, IsLayer, AreLayers}
use Rattle.feature_store.proofs.Listed.{contains_here, contains_cases}
use Rattle.feature_store.proofs.Names.{layers_named, are_named}

-- byte by byte, no name is before itself
before_itself : (n : List ℕ) → slice_cmp nat_cmp n n ≡ Less → ⊥
before_itself n h = let turned : slice_cmp nat_cmp n n ≡ ordering_reverse (slice_cmp nat_cmp n n) = nat_list_cmp_total.antisymm n n in
    let same : Less ≡ ordering_reverse Less = sym h ∙ turned ∙ ap ordering_reverse h in cc

-- the first of ascending names is before the others
first_before : (n : List ℕ) (ns : List (List ℕ)) (x : List ℕ) → IsStrictlySortedBy (slice_cmp nat_cmp) (n ∷ ns) → Contains ns x → slice_cmp nat_cmp n x ≡ Less
first_before n ns x s h =
    All-contains (λ y. slice_cmp nat_cmp n y ≡ Less) ns x (All-from_recursion (λ y. slice_cmp nat_cmp n y ≡ Less) ns (sorted_head (slice_cmp nat_cmp) n ns s)) h

module _ (m : FeatureMap) (z x y : ℕ) where
  -- a name with cuts is a name of layers that have all cuts
  has_shown : (es : FeatureMap) (ns : List (List ℕ)) (name : List ℕ) → All (λ e. IsSome (feature_cut e.1 z x y) → Contains ns e.1.layer) es
      → 0 < length (cuts_of es name z x y) → Contains ns name
  has_shown [] ns name every some = absurd (omega arith)
  has_shown (e ∷ es) ns name every some =
      by (bytes_eq e.1.layer name) refl (feature_cut e.1 z x y) refl
      (has_shown es ns name (All-tail (λ f. IsSome (feature_cut f.1 z x y) → Contains ns f.1.layer) e es every))
    where
      by : (b : Bool) → bytes_eq e.1.layer name ≡ b → (o : Option FeatureView) → feature_cut e.1 z x y ≡ o
          → (0 < length (cuts_of es name z x y) → Contains ns name) → Contains ns name
      by false differs o cut rest = rest (rw differs at some)
      by true same None cut rest = rest (rw (same, cut) at some)
      by true same (Some v) cut rest =
          subst (Contains ns) ((bytes_eq-Decides e.1.layer name).0 same)
          (All-head (λ f. IsSome (feature_cut f.1 z x y) → Contains ns f.1.layer) e es every (ap is_some cut))

  -- each name of one list is a name of another
  named_in : (a b : List LayerView) → AreLayers m z x y a → AreLayers m z x y b → (n : List ℕ) → Contains (names_of a) n → Contains (names_of b) n
  named_in a b are_a are_b n h =
      has_shown m (names_of b) n are_b.every
      (All-contains (λ k. 0 < length (cuts_of m k z x y)) (names_of a) n
      (All-map (λ k. 0 < length (cuts_of m k z x y)) (λ l. l.name) a
      (All-weaker (IsLayer m z x y) (λ l. 0 < length (cuts_of m l.name z x y)) (λ l is. rw (← is.cuts) is.some) a are_a.layers)) h)

  -- layers of one name are one
  same_layer : (k l : LayerView) → IsLayer m z x y k → IsLayer m z x y l → k.name ≡ l.name → k ≡ l
  same_layer k l is_k is_l same =
      let version : k.version ≡ l.version = is_k.version ∙ sym is_l.version in
      let extent : k.extent ≡ l.extent = is_k.extent ∙ sym is_l.extent in
      let features : k.features ≡ l.features = is_k.cuts ∙ ap (λ n. cuts_of m n z x y) same ∙ sym is_l.cuts in
      λ i. record { name = same i; version = version i; extent = extent i; features = features i }

  same_lists : (a b : List LayerView) → IsStrictlySortedBy (slice_cmp nat_cmp) (names_of a) → IsStrictlySortedBy (slice_cmp nat_cmp) (names_of b)
      → All (IsLayer m z x y) a → All (IsLayer m z x y) b
      → ((n : List ℕ) → Contains (names_of a) n → Contains (names_of b) n) → ((n : List ℕ) → Contains (names_of b) n → Contains (names_of a) n) → a ≡ b
  same_lists [] [] sa sb la lb ab ba = refl
  same_lists [] (l ∷ b) sa sb la lb ab ba = absurd (omega (arith, (ba l.name (contains_here l.name (names_of b))).1))
  same_lists (k ∷ a) [] sa sb la lb ab ba = absurd (omega (arith, (ab k.name (contains_here k.name (names_of a))).1))
  same_lists (k ∷ a) (l ∷ b) sa sb la lb ab ba =
      let same : k.name ≡ l.name = elim (contains_cases l.name (names_of b) k.name (ab k.name (contains_here k.name (names_of a)))) [
        | inl e ↦ sym e
        | inr in_b ↦ elim (contains_cases k.name (names_of a) l.name (ba l.name (contains_here l.name (names_of b)))) [
          | inl e ↦ e
          | inr in_a ↦
              absurd (before_itself k.name
              (nat_list_cmp_total.trans k.name l.name k.name (first_before k.name (names_of a) l.name sa in_a)
              (first_before l.name (names_of b) k.name sb in_b)))
        ]
      ] in
      let ab_rest : (n : List ℕ) → Contains (names_of a) n → Contains (names_of b) n =
      λ n h. elim (contains_cases l.name (names_of b) n (ab n (Contains-append_right (k.name ∷ []) (names_of a) n h))) [
        | inl e ↦ absurd (before_itself n (subst (λ p. slice_cmp nat_cmp p n ≡ Less) (same ∙ e) (first_before k.name (names_of a) n sa h)))
        | inr in_b ↦ in_b
      ] in
      let ba_rest : (n : List ℕ) → Contains (names_of b) n → Contains (names_of a) n =
      λ n h. elim (contains_cases k.name (names_of a) n (ba n (Contains-append_right (l.name ∷ []) (names_of b) n h))) [
        | inl e ↦ absurd (before_itself n (subst (λ p. slice_cmp nat_cmp p n ≡ Less) (sym same ∙ e) (first_before l.name (names_of b) n sb h)))
        | inr in_a ↦ in_a
      ] in
      let first : k ≡ l = same_layer k l (All-head (IsLayer m z x y) k a la) (All-head (IsLayer m z x y) l b lb) same in
      let rest : a ≡ b =
      same_lists a b (sorted_tail (slice_cmp nat_cmp) k.name (names_of a) sa) (sorted_tail (slice_cmp nat_cmp) l.name (names_of b) sb)
      (All-tail (IsLayer m z x y) k a la) (All-tail (IsLayer m z x y) l b lb) ab_rest ba_rest in
      λ i. first i ∷ rest i

  pub one_list : (a b : List LayerView) → AreLayers m z x y a → AreLayers m z x y b → a ≡ b
  one_list a b are_a are_b = same_lists a b are_a.ascending are_b.ascending are_a.layers are_b.layers (named_in a b are_a are_b) (named_in b a are_b are_a)

  -- where the map has the tile, its layers are the one list of which these things are true
  inside : is_tile z x y ≡ true → layers m z x y ≡ layers_named m z x y (layer_names m)
  unfolding layers
  inside is = rw is refl

  pub is_the_list : is_tile z x y ≡ true → (ls : List LayerView) → AreLayers m z x y ls → ls ≡ layers m z x y
  is_the_list is ls are = one_list ls (layers_named m z x y (layer_names m)) are (are_named m z x y) ∙ sym (inside is)

  pub the_list_is : is_tile z x y ≡ true → (ls : List LayerView) → ls ≡ layers m z x y → AreLayers m z x y ls
  the_list_is is ls same = subst (AreLayers m z x y) (sym (same ∙ inside is)) (are_named m z x y)

  pub outside : is_tile z x y ≡ false → layers m z x y ≡ []
  unfolding layers
  outside is = rw is refl

-- a tile of a zoom up to the greatest, and one above it
pub a_tile : (z x y : ℕ) → z ≤ MAX_ZOOM → x < 2 ^ z → y < 2 ^ z → is_tile z x y ≡ true
a_tile z x y zoom column row = grind (arith, nat_tests)

pub no_tile : (z x y : ℕ) → MAX_ZOOM < z → is_tile z x y ≡ false
no_tile z x y above = grind (arith, nat_tests)
