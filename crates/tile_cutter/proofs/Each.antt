-- A loop that appends what each item gives.
use Rattle.std.proofs.Common.{◌≡◌, List, [], ◌∷◌, ◌++◌, map, refl, sym, ap, subst}
use Rattle.std.specs.Prelude.{All, flat_map}
use Rattle.std.proofs.lemmas.List.Elements.{All-nil, All-cons, All-append, All-head, All-tail}

pub each_begins : {V X Y : Type 0} (g : V → X) (f : X → List Y) (vs : List V) → flat_map (λ v. f (g v)) vs ≡ flat_map f (map g vs)
each_begins g f [] = refl
each_begins g f (v ∷ vs) = ap (λ r. f (g v) ++ r) (each_begins g f vs)

-- what holds of all that each item gives
pub each_all : {X Y : Type 0} (P : Y → Type 0) (f : X → List Y) (xs : List X) → All (λ x. All P (f x)) xs → All P (flat_map f xs)
each_all P f [] all = All-nil P
each_all P f (x ∷ xs) all = All-append P (f x) (flat_map f xs) (All-head (λ y. All P (f y)) x xs all) (each_all P f xs (All-tail (λ y. All P (f y)) x xs all))

-- ---- items that an iterator gives: a list is what is left of it, or nothing is

-- what holds of all that are left
pub first_keeps : {X : Type 0} (P : X → Type 0) (left rest : List X) (x : X) → left ≡ x ∷ rest → All P left → P x
first_keeps P left rest x first all = All-head P x rest (subst (All P) first all)

pub rest_keeps : {X : Type 0} (P : X → Type 0) (left rest : List X) (x : X) → left ≡ x ∷ rest → All P left → All P rest
rest_keeps P left rest x first all = All-tail P x rest (subst (All P) first all)

-- what holds of a list if it holds of what is left
pub all_item : {X : Type 0} (P : X → Type 0) (W : Type 0) (left rest : List X) (x : X) → left ≡ x ∷ rest → P x → (All P left → W) → All P rest → W
all_item P W left rest x first here so_far others = so_far (subst (All P) (sym first) (All-cons P x rest here others))

pub all_over : {X : Type 0} (P : X → Type 0) (W : Type 0) (left : List X) → left ≡ [] → (All P left → W) → W
all_over P W left none so_far = so_far (subst (All P) (sym none) (All-nil P))
