-- The names of a map's layers, and the list of layers that they give.
use Rattle.std.proofs.Common.{◌≡◌, ℕ, ◌<◌, List, [], ◌∷◌, length, All, inl, inr, refl, sym, ap, subst, ◌∙◌, arith}
use Rattle.std.specs.List.{Contains, cons_option, AllByRecursion}
use Rattle.std.specs.Prelude.{filter_map}
use Rattle.std.specs.List.Sorted.{IsStrictlySortedBy}
use Rattle.std.specs.Ordering.{nat_cmp, is_eq, match_ordering, ordering_reverse}
use Rattle.std.specs.declared.cmp.Ordering.{Ordering}
use Rattle.std.specs.declared.cmp.Ordering.TheVariants.{Less, Equal, Greater}
use Rattle.std.specs.Cmp.Lexicographic.{slice_cmp}
use Rattle.std.proofs.lemmas.Cmp.{nat_list_cmp_total}
use Rattle.std.proofs.lemmas.List.Elements.{All-nil, All-cons, All-weaker}
use Rattle.feature_model.specs.Data.{FeatureData}
use Rattle.mvt_layer.specs.declared.layers.TheConstants.{CURRENT_VERSION, DEFAULT_EXTENT}
use Rattle.mvt_layer.specs.Tile.{FeatureView, LayerView}
use Rattle.feature_store.specs.Layers.{cuts_of, with_name, layer_names, layer_with, names_of, IsLayer, AreLayers}
use Rattle.feature_store.specs.Store.{FeatureMap}
use Rattle.feature_store.proofs.Listed.{contains_here, contains_on, contains_cases, same_name, shown_among}

-- names in the order of their bytes
abbrev name_cmp : List ℕ → List ℕ → Ordering
name_cmp a b = slice_cmp nat_cmp a b

abbrev Ascend : List (List ℕ) → Type 0
Ascend names = IsStrictlySortedBy (slice_cmp nat_cmp) names

-- ---- a name more

module _ (P : List ℕ → Type 0) where
  all_with : (n : List ℕ) (ks : List (List ℕ)) → P n → AllByRecursion P ks → AllByRecursion P (with_name n ks)
  all_with n [] p all = (p, tt)
  all_with n (k ∷ ks) p all = by (name_cmp n k) (all_with n ks p all.1)
    where
      by : (o : Ordering) → AllByRecursion P (with_name n ks) → AllByRecursion P (match_ordering o (n ∷ k ∷ ks) (k ∷ ks) (k ∷ with_name n ks))
      by Less rest = (p, all)
      by Equal rest = all
      by Greater rest = (all.0, rest)

turned : (n k : List ℕ) → name_cmp n k ≡ Greater → name_cmp k n ≡ Less
turned n k h = nat_list_cmp_total.antisymm k n ∙ ap ordering_reverse h

-- what is above a name is above one before it
above : (n k : List ℕ) (ks : List (List ℕ)) → name_cmp n k ≡ Less → AllByRecursion (λ m. name_cmp k m ≡ Less) ks → AllByRecursion (λ m. name_cmp n m ≡ Less) ks
above n k [] h all = tt
above n k (m ∷ ks) h all = (nat_list_cmp_total.trans n k m h all.0, above n k ks h all.1)

ascend_with : (n : List ℕ) (ks : List (List ℕ)) → Ascend ks → Ascend (with_name n ks)
unfolding IsStrictlySortedBy
ascend_with n [] s = (tt, tt)
ascend_with n (k ∷ ks) s = by (name_cmp n k) refl (ascend_with n ks s.1)
  where
    by : (o : Ordering) → name_cmp n k ≡ o → Ascend (with_name n ks) → Ascend (match_ordering o (n ∷ k ∷ ks) (k ∷ ks) (k ∷ with_name n ks))
    by Less is rest = ((is, above n k ks is s.0), s)
    by Equal is rest = s
    by Greater is rest = (all_with (λ m. name_cmp k m ≡ Less) n ks (turned n k is) s.0, rest)

has_name : (n : List ℕ) (ks : List (List ℕ)) → Contains (with_name n ks) n
has_name n [] = contains_here n []
has_name n (k ∷ ks) = by (name_cmp n k) refl (has_name n ks)
  where
    by : (o : Ordering) → name_cmp n k ≡ o → Contains (with_name n ks) n → Contains (match_ordering o (n ∷ k ∷ ks) (k ∷ ks) (k ∷ with_name n ks)) n
    by Less is rest = contains_here n (k ∷ ks)
    by Equal is rest = subst (Contains (k ∷ ks)) (sym (same_name n k (ap is_eq is))) (contains_here k ks)
    by Greater is rest = contains_on k (with_name n ks) n rest

still_has : (n : List ℕ) (ks : List (List ℕ)) (x : List ℕ) → Contains ks x → Contains (with_name n ks) x
still_has n [] x h = absurd (omega (arith, h.1))
still_has n (k ∷ ks) x h = by (name_cmp n k) (still_has n ks x)
  where
    by : (o : Ordering) → (Contains ks x → Contains (with_name n ks) x) → Contains (match_ordering o (n ∷ k ∷ ks) (k ∷ ks) (k ∷ with_name n ks)) x
    by Less rest = contains_on n (k ∷ ks) x h
    by Equal rest = h
    by Greater rest = elim (contains_cases k ks x h) [
      | inl e ↦ subst (Contains (k ∷ with_name n ks)) e (contains_here k (with_name n ks))
      | inr later ↦ contains_on k (with_name n ks) x (rest later)
    ]

-- ---- the names of a map

names_ascend : (m : FeatureMap) → Ascend (layer_names m)
unfolding IsStrictlySortedBy
names_ascend [] = tt
names_ascend (e ∷ m) = ascend_with e.1.layer (layer_names m) (names_ascend m)

-- the layer of a feature is named
abbrev IsNamed : List (List ℕ) → ℕ × FeatureData → Type 0
IsNamed names e = Contains names e.1.layer

each_named : (m : FeatureMap) → All (IsNamed (layer_names m)) m
each_named [] = All-nil (IsNamed [])
each_named (e ∷ m) =
    let names = with_name e.1.layer (layer_names m) in
    All-cons (IsNamed names) e m (has_name e.1.layer (layer_names m))
    (All-weaker (IsNamed (layer_names m)) (IsNamed names) (λ f there. still_has e.1.layer (layer_names m) f.1.layer there) m (each_named m))

-- ---- the layers of names

module _ (m : FeatureMap) (z x y : ℕ) where
  abbrev pub layers_named : List (List ℕ) → List LayerView
  layers_named names = filter_map (λ name. layer_with name (cuts_of m name z x y)) names

  all_named : (P : List ℕ → Type 0) (names : List (List ℕ)) → AllByRecursion P names → AllByRecursion P (names_of (layers_named names))
  all_named P [] all = tt
  all_named P (n ∷ names) all = by (cuts_of m n z x y) (all_named P names all.1)
    where
      by : (fs : List FeatureView) → AllByRecursion P (names_of (layers_named names))
          → AllByRecursion P (names_of (cons_option (layer_with n fs) (layers_named names)))
      by [] rest = rest
      by (f ∷ fs) rest = (all.0, rest)

  ascend_named : (names : List (List ℕ)) → Ascend names → Ascend (names_of (layers_named names))
  unfolding IsStrictlySortedBy
  ascend_named [] s = tt
  ascend_named (n ∷ names) s = by (cuts_of m n z x y) (ascend_named names s.1)
    where
      by : (fs : List FeatureView) → Ascend (names_of (layers_named names)) → Ascend (names_of (cons_option (layer_with n fs) (layers_named names)))
      by [] rest = rest
      by (f ∷ fs) rest = (all_named (λ k. name_cmp n k ≡ Less) names s.0, rest)

  each_layer : (names : List (List ℕ)) → All (IsLayer m z x y) (layers_named names)
  each_layer [] = All-nil (IsLayer m z x y)
  each_layer (n ∷ names) = by (cuts_of m n z x y) refl (each_layer names)
    where
      by : (fs : List FeatureView) → cuts_of m n z x y ≡ fs → All (IsLayer m z x y) (layers_named names)
          → All (IsLayer m z x y) (cons_option (layer_with n fs) (layers_named names))
      by [] is rest = rest
      by (f ∷ fs) is rest =
          All-cons (IsLayer m z x y) (record { name = n; version = CURRENT_VERSION; extent = DEFAULT_EXTENT; features = f ∷ fs }) (layers_named names)
          (record { version = refl; extent = refl; some = omega arith; cuts = sym is }) rest

  shown_named : (names : List (List ℕ)) (name : List ℕ) → Contains names name → 0 < length (cuts_of m name z x y)
      → Contains (names_of (layers_named names)) name
  shown_named [] name h some = absurd (omega (arith, h.1))
  shown_named (n ∷ names) name h some = by (cuts_of m n z x y) refl (shown_named names name)
    where
      by : (fs : List FeatureView) → cuts_of m n z x y ≡ fs
          → (Contains names name → 0 < length (cuts_of m name z x y) → Contains (names_of (layers_named names)) name)
          → Contains (names_of (cons_option (layer_with n fs) (layers_named names))) name
      by [] is rest = elim (contains_cases n names name h) [
        | inl e ↦ absurd (omega (arith, subst (λ k. 0 < length (cuts_of m k z x y)) (sym e) some, ap length is))
        | inr later ↦ rest later some
      ]
      by (f ∷ fs) is rest = elim (contains_cases n names name h) [
        | inl e ↦ subst (Contains (n ∷ names_of (layers_named names))) e (contains_here n (names_of (layers_named names)))
        | inr later ↦ contains_on n (names_of (layers_named names)) name (rest later some)
      ]

  pub are_named : AreLayers m z x y (layers_named (layer_names m))
  are_named = record {
    ascending = ascend_named (layer_names m) (names_ascend m);
    layers = each_layer (layer_names m);
    every = λ k e within. λ shown. shown_named (layer_names m) _ (each_named m k e within) (shown_among z x y m k e within shown);
  }
