-- What is gathered for a tile is the tile's list of layers.
use Rattle.std.proofs.Common.{◌≡◌, ℕ, zero, suc, ◌⊎◌, inl, inr, ◌<◌, Bool, true, false, cond, List, [], ◌∷◌, length, map, Option, Some, None}
use Rattle.std.proofs.Common.{IsSome, is_some, All, Global, refl, sym, ap, subst, ◌∙◌, arith}
use mathlib.Core.Bool.{false≢true}
use Rattle.std.specs.Str.{bytes_eq}
use Rattle.std.specs.List.{Contains, cons_option, AllByRecursion}
use Rattle.std.specs.List.Sorted.{IsStrictlySortedBy}
use Rattle.std.specs.Ordering.{nat_cmp, is_eq}
use Rattle.std.specs.declared.cmp.Ordering.TheVariants.{Less}
use Rattle.std.specs.Cmp.Lexicographic.{slice_cmp}
use Rattle.std.specs.BTreeMap.{is_at, IsOrdered}
use Rattle.std.specs.Map.{keys_of, lookup}
use Rattle.std.specs.Prelude.{String}
use Rattle.std.specs.String.{string_bytes, string_cmp, string_cmp_total}
use Rattle.std.proofs.lemmas.List.Elements.{All-nil, All-cons, All-map, All-weaker, Contains-append_right}
use Rattle.std.proofs.lemmas.Slice.Eq.{bytes_eq-Decides}
use Rattle.std.proofs.lemmas.Map.Text.{is_eq-slice_cmp}
use Rattle.std.proofs.lemmas.Map.Views.{All-found}
use Rattle.feature_model.specs.Data.{FeatureData}
use Rattle.mvt_layer.specs.Tile.{FeatureView}
use Rattle.mvt_write.specs.declared.layer_writer.LayerWriter.{LayerWriter}
use Rattle.tile_cutter.specs.Cut.{feature_cut}
use Rattle.feature_store.specs.Gathered.{Gathered, HasWritten, IsGathered, Gathers, layer_of, layers_of}
use Rattle.feature_store.specs.Layers.{cut_for, cuts_of, names_of, IsLayer, AreLayers}
use Rattle.feature_store.specs.Store.{FeatureMap}

-- a map of no entries has none
pub no_entries : {X : Type 0} (xs : List X) → length xs ≡ 0 → xs ≡ []
no_entries [] none = refl
no_entries (x ∷ xs) none = absurd (omega (arith, none))

-- ---- names

pub contains_here : {X : Type 0} (x : X) (xs : List X) → Contains (x ∷ xs) x
contains_here x xs = (0, omega arith, refl)

pub contains_on : {X : Type 0} (x : X) (xs : List X) (y : X) → Contains xs y → Contains (x ∷ xs) y
contains_on x xs y h = Contains-append_right (x ∷ []) xs y h

pub contains_cases : (n : List ℕ) (ns : List (List ℕ)) (x : List ℕ) → Contains (n ∷ ns) x → (n ≡ x) ⊎ Contains ns x
contains_cases n ns x (zero, lt, is) = inl is
contains_cases n ns x (suc k, lt, is) = inr (k, omega arith, is)

-- the entries of what is gathered
abbrev pub Entries : Type 0
Entries = List (String Global × LayerWriter)

-- whether a key is the name
abbrev pub is_name : List ℕ → String Global → Bool
is_name name = is_at (λ k. slice_cmp nat_cmp name (string_bytes k))

pub same_name : (name other : List ℕ) → is_eq (slice_cmp nat_cmp name other) ≡ true → name ≡ other
same_name name other h = (bytes_eq-Decides name other).0 (sym (is_eq-slice_cmp name other) ∙ h)

module _ (fs : List ℕ → List FeatureView) where
  abbrev names_in : Entries → List (List ℕ)
  names_in es = names_of (map (layer_of fs) es)

  -- a name that is found is the name of a layer
  found_named : (es : Entries) (name : List ℕ) → is_some (lookup (is_name name) es) ≡ true → Contains (names_in es) name
  found_named [] name h = absurd (false≢true h)
  found_named (e ∷ es) name h = by (is_name name e.0) refl (found_named es name)
    where
      by : (b : Bool) → is_name name e.0 ≡ b → (is_some (lookup (is_name name) es) ≡ true → Contains (names_in es) name)
          → Contains (names_in (e ∷ es)) name
      by true is rest = subst (λ n. Contains (names_in (e ∷ es)) n) (sym (same_name name (string_bytes e.0) is))
          (contains_here (string_bytes e.0) (names_in es))
      by false is rest =
          contains_on (string_bytes e.0) (names_in es) name (rest (sym (ap (λ b. is_some (cond b (Some e.1) (lookup (is_name name) es))) is) ∙ h))

  -- the names of layers ascend as the keys do
  names_ascend : (es : Entries) → IsStrictlySortedBy string_cmp (keys_of es)
      → IsStrictlySortedBy (slice_cmp nat_cmp) (names_in es)
  unfolding IsStrictlySortedBy
  names_ascend [] s = tt
  names_ascend (e ∷ es) s = (along es s.0, names_ascend es s.1)
    where
      along : (fs : Entries) → AllByRecursion (λ k. slice_cmp nat_cmp (string_bytes e.0) (string_bytes k) ≡ Less) (keys_of fs)
          → AllByRecursion (λ n. slice_cmp nat_cmp (string_bytes e.0) n ≡ Less) (names_in fs)
      along [] a = tt
      along (f ∷ fs) a = (a.0, along fs a.1)

-- ---- the features of a layer

-- what a tile shows of a feature is among the cuts of its layer
abbrev pub IsAmong : FeatureMap → ℕ → ℕ → ℕ → ℕ × FeatureData → Type 0
IsAmong m z x y e = IsSome (feature_cut e.1 z x y) → 0 < length (cuts_of m e.1.layer z x y)

-- one cut more, or none
longer : (o : Option FeatureView) (fs : List FeatureView) → 0 < length fs → 0 < length (cons_option o fs)
longer None fs h = h
longer (Some f) fs h = omega arith

first_among : (z x y : ℕ) (e : ℕ × FeatureData) (m : FeatureMap) (o : Option FeatureView) → feature_cut e.1 z x y ≡ o → is_some o ≡ true
    → 0 < length (cuts_of (e ∷ m) e.1.layer z x y)
first_among z x y e m None is h = absurd (false≢true h)
first_among z x y e m (Some v) is h =
    let same : bytes_eq e.1.layer e.1.layer ≡ true = (bytes_eq-Decides e.1.layer e.1.layer).1 refl in
    rw (same, is) (omega arith)

pub shown_among : (z x y : ℕ) (m : FeatureMap) → All (IsAmong m z x y) m
shown_among z x y [] = All-nil (IsAmong [] z x y)
shown_among z x y (e ∷ m) =
    All-cons (IsAmong (e ∷ m) z x y) e m
    (first_among z x y e m (feature_cut e.1 z x y) refl)
    (All-weaker (IsAmong m z x y) (IsAmong (e ∷ m) z x y) (λ f shown there. longer (cut_for f.1.layer z x y e) (cuts_of m f.1.layer z x y) (shown there)) m
    (shown_among z x y m))

-- ---- all of it

-- what a name finds is what is there
abbrev pub IsFound : Gathered → String Global × LayerWriter → Type 0
IsFound g e = lookup (is_name (string_bytes e.0)) g.entries ≡ Some e.1

abbrev pub IsAscending : Gathered → Type 0
IsAscending g = IsOrdered string_cmp g

found : (g : Gathered) → IsAscending g → All (IsFound g) g.entries
found g ordered = All-found string_cmp_total g ordered

-- the features of a name that is there
pub all_written : (g : Gathered) (fs : List ℕ → List FeatureView) → Gathers g fs → IsAscending g → All (HasWritten fs) g.entries
all_written g fs gathers ordered =
    All-weaker (IsFound g) (HasWritten fs) (λ e is. subst (λ o. IsGathered o (string_bytes e.0) (fs (string_bytes e.0))) is (gathers (string_bytes e.0)))
    g.entries (found g ordered)

module _ (m : FeatureMap) (z x y : ℕ) (g : Gathered) where
  abbrev shown : List ℕ → List FeatureView
  shown name = cuts_of m name z x y

  named : Gathers g shown → (name : List ℕ) → 0 < length (shown name) → Contains (names_of (layers_of shown g)) name
  named gathers name some = found_named shown g.entries name (by (lookup (is_name name) g.entries) (gathers name))
    where
      by : (o : Option LayerWriter) → IsGathered o name (shown name) → is_some o ≡ true
      by None h = absurd (omega (arith, some, ap length h))
      by (Some w) h = refl

  layer_is : (e : String Global × LayerWriter) → HasWritten shown e → IsLayer m z x y (layer_of shown e)
  layer_is e is = record { version = refl; extent = refl; some = is.0; cuts = refl }

  pub are_layers : Gathers g shown → IsAscending g → AreLayers m z x y (layers_of shown g)
  are_layers gathers ordered = record {
    ascending = names_ascend shown g.entries ordered;
    layers = All-map (IsLayer m z x y) (layer_of shown) g.entries
        (All-weaker (HasWritten shown) (λ e. IsLayer m z x y (layer_of shown e)) layer_is g.entries (all_written g shown gathers ordered));
    every =
        All-weaker (IsAmong m z x y) (λ e. IsSome (feature_cut e.1 z x y) → Contains (names_of (layers_of shown g)) e.1.layer)
        (λ e some there. named gathers e.1.layer (some there)) m (shown_among z x y m);
  }
