-- The list of an edit's object: it is that of one sequence, and what a loop keeps that reads it.
use Rattle.std.proofs.Common.{◌≡◌, ℕ, zero, suc, ◌+◌, ◌<◌, List, [], ◌∷◌, ◌++◌, length, get_or, map, take, All}
use Rattle.std.proofs.Common.{refl, sym, ap, ◌∙◌, arith}
use Rattle.std.proofs.lemmas.List.{get_or-map, length-map, map-append, map_more}
use Rattle.std.proofs.lemmas.List.Elements.{All-head}
use Rattle.serde_json.specs.Data.{Data}
use Rattle.serde_json.specs.View.{view, items_of}
use Rattle.serde_json.specs.declared.value.Value.{Value}
use Rattle.edit_json.specs.Batches.{list_json, Begins}

items-one : (ds es : List Data) → items_of ds ≡ items_of es → ds ≡ es
items-one [] [] same = refl
items-one [] (e ∷ es) same = absurd (cc)
items-one (d ∷ ds) [] same = absurd (cc)
items-one (d ∷ ds) (e ∷ es) same =
    let first : d ≡ e = cc in
    let rest : items_of ds ≡ items_of es = cc in
    let more = items-one ds es rest in
    λ i. first i ∷ more i

pub list-one : (ds es : List Data) → list_json ds ≡ list_json es → ds ≡ es
list-one ds es same = let items : items_of ds ≡ items_of es = cc in items-one ds es items

-- over the JSON of some type
module _ {A : Type 0} (json : A → Data) where
  -- each value is that of one element
  pub all-one : ((a b : A) → json a ≡ json b → a ≡ b) → (xs ys : List A) → map json xs ≡ map json ys → xs ≡ ys
  all-one one [] [] same = refl
  all-one one [] (y ∷ ys) same = absurd (cc)
  all-one one (x ∷ xs) [] same = absurd (cc)
  all-one one (x ∷ xs) (y ∷ ys) same =
      let first : json x ≡ json y = cc in
      let rest : map json xs ≡ map json ys = cc in
      let here = one x y first in
      let more = all-one one xs ys rest in
      λ i. here i ∷ more i

  -- one more value is read
  pub read-more : (vs : List Value) (i : ℕ) (v : Value) (ys : List A) (a : A) → i < length vs → v ≡ get_or vs i v
      → view v ≡ json a → map view (take i vs) ≡ map json ys → map view (take (i + 1) vs) ≡ map json (ys ++ a ∷ [])
  read-more vs i v ys a l is here so_far =
      map_more view vs i v l ∙ ap (λ ds. ds ++ view (get_or vs i v) ∷ []) so_far
      ∙ ap (λ d. map json ys ++ d ∷ []) (ap view (sym is) ∙ here) ∙ sym (map-append json ys (a ∷ []))

  -- which of them have their members
  module _ (Has : A → Type 0) where
    -- some values are read, so the first is one
    pub begins-read : (vs : List Value) (k : ℕ) (ys : List A) → map view (take k vs) ≡ map json ys → All Has ys → 0 < length ys
        → Begins json Has (map view vs)
    begins-read vs k [] so_far members some = absurd (omega (arith, some))
    begins-read [] zero (y ∷ ys) so_far members some = absurd (cc)
    begins-read [] (suc k) (y ∷ ys) so_far members some = absurd (cc)
    begins-read (v ∷ vs) zero (y ∷ ys) so_far members some = absurd (cc)
    begins-read (v ∷ vs) (suc k) (y ∷ ys) so_far members some =
        let first : view v ≡ json y = cc in
        (y, map view vs, λ j. first j ∷ map view vs, All-head Has y ys members)

    pub begins-there : (ys : List A) → All Has ys → 0 < length ys → Begins json Has (map json ys)
    begins-there [] members some = absurd (omega (arith, some))
    begins-there (y ∷ ys) members some = (y, map json ys, refl, All-head Has y ys members)

    -- a value that is none
    refused-there : (vs : List Value) (i : ℕ) (v : Value) → i < length vs → v ≡ get_or vs i v → ((a : A) → view v ≡ json a → Has a → ⊥)
        → (d : A) (ys : List A) → map view vs ≡ map json ys → All Has ys → ⊥
    refused-there vs i v l is none d ys same members =
        let len : length vs ≡ length ys = sym (length-map vs view) ∙ ap length same ∙ length-map ys json in
        let within : i < length ys = omega (arith, l, len) in
        let there : view v ≡ get_or (map view vs) i (view v) = ap view is ∙ sym (get_or-map view vs i v (view v) l) in
        let here : get_or (map json ys) i (view v) ≡ json (get_or ys i d) = get_or-map json ys i d (view v) within in
        none (get_or ys i d) (there ∙ ap (λ ds. get_or ds i (view v)) same ∙ here) (members i d within)

    pub read-refused : (vs : List Value) (i : ℕ) (v : Value) → i < length vs → v ≡ get_or vs i v → ((a : A) → view v ≡ json a → Has a → ⊥)
        → (ys : List A) → map view vs ≡ map json ys → All Has ys → ⊥
    read-refused vs i v l is none [] same members =
        let len : length vs ≡ 0 = sym (length-map vs view) ∙ ap length same in absurd (omega (arith, l, len))
    read-refused vs i v l is none (y ∷ ys) same members = refused-there vs i v l is none y (y ∷ ys) same members
