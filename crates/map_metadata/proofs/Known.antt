-- A name of a layer has features, and a key has values.
use Rattle.std.proofs.Common.{◌≡◌, ◌⊎◌, ℕ, zero, suc, ◌<◌, Bool, true, false, List, [], ◌∷◌, ◌++◌, length, map, inl, inr, refl, sym, subst, ◌∙◌}
use Rattle.std.proofs.Common.{arith}
use mathlib.Core.Bool.{false≢true}
use Rattle.std.specs.List.{Contains}
use Rattle.std.specs.Str.{bytes_eq}
use Rattle.std.proofs.lemmas.List.Elements.{Contains-append_left, Contains-append_right, Contains-append_cases}
use Rattle.std.proofs.lemmas.Slice.Eq.{bytes_eq-Decides}
use Rattle.feature_model.specs.Data.{TagData, FeatureData}
use Rattle.feature_store.specs.Store.{FeatureMap}
use Rattle.map_metadata.specs.Fields.{features_in, IsLayerName, kinds_of, kinds_in, keys_in, IsKey}

-- ---- lists

pub contains_here : {X : Type 0} (x : X) (xs : List X) → Contains (x ∷ xs) x
contains_here x xs = (0, omega arith, refl)

pub contains_on : {X : Type 0} (x : X) (xs : List X) (y : X) → Contains xs y → Contains (x ∷ xs) y
contains_on x xs y h = Contains-append_right (x ∷ []) xs y h

pub contains_cases : {X : Type 0} (n : X) (ns : List X) (x : X) → Contains (n ∷ ns) x → (n ≡ x) ⊎ Contains ns x
contains_cases n ns x (zero, lt, is) = inl is
contains_cases n ns x (suc k, lt, is) = inr (k, omega arith, is)

pub none_there : {X G : Type 0} (x : X) → Contains [] x → G
none_there x (k, lt, is) = absurd (omega (arith, lt))

-- ---- lists that aren't empty

some_either : {X : Type 0} (xs ys : List X) → 0 < length (xs ++ ys) → (0 < length xs) ⊎ (0 < length ys)
some_either [] ys h = inr h
some_either (x ∷ xs) ys h = inl (omega arith)

some_front : {X : Type 0} (xs ys : List X) → 0 < length xs → 0 < length (xs ++ ys)
some_front [] ys h = absurd (omega (arith, h))
some_front (x ∷ xs) ys h = omega arith

some_end : {X : Type 0} (xs ys : List X) → 0 < length ys → 0 < length (xs ++ ys)
some_end [] ys h = h
some_end (x ∷ xs) ys h = omega arith

-- ---- layers

pub named : (m : FeatureMap) (name : List ℕ) → 0 < length (features_in m name) → IsLayerName m name
named [] name h = absurd (omega (arith, h))
named (e ∷ m) name h = by (bytes_eq e.1.layer name) refl (named m name)
  where
    by : (b : Bool) → bytes_eq e.1.layer name ≡ b → (0 < length (features_in m name) → IsLayerName m name) → IsLayerName (e ∷ m) name
    by true is rest =
        subst (Contains (map (λ d. d.1.layer) (e ∷ m))) ((bytes_eq-Decides e.1.layer name).0 is) (contains_here e.1.layer (map (λ d. d.1.layer) m))
    by false is rest = contains_on e.1.layer (map (λ d. d.1.layer) m) name (rest (rw is at h))

pub some_named : (m : FeatureMap) (name : List ℕ) → IsLayerName m name → 0 < length (features_in m name)
some_named [] name h = none_there name h
some_named (e ∷ m) name h = by (bytes_eq e.1.layer name) refl (some_named m name)
  where
    by : (b : Bool) → bytes_eq e.1.layer name ≡ b → (IsLayerName m name → 0 < length (features_in m name)) → 0 < length (features_in (e ∷ m) name)
    by true is rest = rw is (omega arith)
    by false is rest = rw is (elim (contains_cases e.1.layer (map (λ d. d.1.layer) m) name h) [
      | inl here ↦ absurd (false≢true (sym is ∙ (bytes_eq-Decides e.1.layer name).1 here))
      | inr there ↦ rest there
    ])

-- ---- keys

tagged : (ts : List TagData) (key : List ℕ) → 0 < length (kinds_of ts key) → Contains (map (λ t. t.key) ts) key
tagged [] key h = absurd (omega (arith, h))
tagged (t ∷ ts) key h = by (bytes_eq t.key key) refl (tagged ts key)
  where
    by : (b : Bool) → bytes_eq t.key key ≡ b → (0 < length (kinds_of ts key) → Contains (map (λ u. u.key) ts) key)
        → Contains (map (λ u. u.key) (t ∷ ts)) key
    by true is rest = subst (Contains (map (λ u. u.key) (t ∷ ts))) ((bytes_eq-Decides t.key key).0 is) (contains_here t.key (map (λ u. u.key) ts))
    by false is rest = contains_on t.key (map (λ u. u.key) ts) key (rest (rw is at h))

some_tagged : (ts : List TagData) (key : List ℕ) → Contains (map (λ t. t.key) ts) key → 0 < length (kinds_of ts key)
some_tagged [] key h = none_there key h
some_tagged (t ∷ ts) key h = by (bytes_eq t.key key) refl (some_tagged ts key)
  where
    by : (b : Bool) → bytes_eq t.key key ≡ b → (Contains (map (λ u. u.key) ts) key → 0 < length (kinds_of ts key)) → 0 < length (kinds_of (t ∷ ts) key)
    by true is rest = rw is (omega arith)
    by false is rest = rw is (elim (contains_cases t.key (map (λ u. u.key) ts) key h) [
      | inl here ↦ absurd (false≢true (sym is ∙ (bytes_eq-Decides t.key key).1 here))
      | inr there ↦ rest there
    ])

pub keyed : (fs : List FeatureData) (key : List ℕ) → 0 < length (kinds_in fs key) → IsKey fs key
keyed [] key h = absurd (omega (arith, h))
keyed (f ∷ fs) key h = elim (some_either (kinds_of f.tags key) (kinds_in fs key) h) [
  | inl here ↦ Contains-append_left (map (λ t. t.key) f.tags) (keys_in fs) key (tagged f.tags key here)
  | inr there ↦ Contains-append_right (map (λ t. t.key) f.tags) (keys_in fs) key (keyed fs key there)
]

pub some_keyed : (fs : List FeatureData) (key : List ℕ) → IsKey fs key → 0 < length (kinds_in fs key)
some_keyed [] key h = none_there key h
some_keyed (f ∷ fs) key h = elim (Contains-append_cases (map (λ t. t.key) f.tags) (keys_in fs) key h) [
  | inl here ↦ some_front (kinds_of f.tags key) (kinds_in fs key) (some_tagged f.tags key here)
  | inr there ↦ some_end (kinds_of f.tags key) (kinds_in fs key) (some_keyed fs key there)
]
