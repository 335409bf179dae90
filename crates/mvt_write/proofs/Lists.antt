-- Lists that grow at their end, item by item.
use Rattle.std.proofs.Common.{◌≡◌, ℕ, ◌+◌, ◌<◌, List, [], ◌∷◌, ◌++◌, length, get_or, take, map, sym, ap, subst, ◌∙◌}
use Rattle.std.specs.Prelude.{All}
use Rattle.std.specs.List.{AllByRecursion}
use Rattle.std.proofs.lemmas.List.{map-append, length-map, get_or-map, take_more}
use Rattle.std.proofs.lemmas.List.Elements.{All-append, All-cons, All-nil}

module _ {A B : Type 0} (f : A → B) where
  pub map_more : (xs : List A) (i : ℕ) (d : A) → i < length xs → map f (take (i + 1) xs) ≡ map f (take i xs) ++ f (get_or xs i d) ∷ []
  map_more xs i d within = ap (λ (ys : List A). map f ys) (take_more xs i d within) ∙ map-append f (take i xs) (get_or xs i d ∷ [])

  -- what each has, the one at this index has
  pub mapped_has : (P : B → Type 0) (xs : List A) (i : ℕ) (d : A) → i < length xs → All P (map f xs) → P (f (get_or xs i d))
  mapped_has P xs i d within all =
      subst P (get_or-map f xs i d (f d) within) (all i (f d) (rw (length-map xs f) within))

pub all_more : {B : Type 0} (P : B → Type 0) (xs more : List B) (x : B) → All P xs → P x → more ≡ xs ++ x ∷ [] → All P more
all_more {B} P xs more x before now is = subst (λ (ys : List B). All P ys) (sym is) (All-append P xs (x ∷ []) before (All-cons P x [] now (All-nil P)))

-- what holds of a list holds of its front and of its back
pub front_has : {B : Type 0} (P : B → Type 0) (xs ys : List B) → AllByRecursion P (xs ++ ys) → AllByRecursion P xs
front_has P [] ys all = tt
front_has P (x ∷ xs) ys all = (all.0, front_has P xs ys all.1)

pub back_has : {B : Type 0} (P : B → Type 0) (xs ys : List B) → AllByRecursion P (xs ++ ys) → AllByRecursion P ys
back_has P [] ys all = all
back_has P (x ∷ xs) ys all = back_has P xs ys all.1
