-- What holds of each element of a mapped list.
use Rattle.std.proofs.Common.{◌≡◌, ◌↔◌, ℕ, ◌<◌, IsTrue, Bool, List, [], ◌∷◌, length, get_or, map, All}
use Rattle.std.proofs.lemmas.List.Elements.{All-map, All-nil, All-cons, All-head, All-tail}

pub All-from_map : {X Y : Type 0} (P : Y → Type 0) (f : X → Y) (xs : List X) → All P (map f xs) → All (λ x. P (f x)) xs
All-from_map P f [] h = All-nil (λ x. P (f x))
All-from_map P f (x ∷ xs) h = All-cons (λ y. P (f y)) x xs (All-head P (f x) (map f xs) h) (All-from_map P f xs (All-tail P (f x) (map f xs) h))

-- a test of each element is a test of the mapped list
pub tests_map : {X Y : Type 0} (P : Y → Type 0) (f : X → Y) (xs : List X) (b : Bool) → IsTrue b ↔ All (λ x. P (f x)) xs → IsTrue b ↔ All P (map f xs)
tests_map P f xs b h = (λ t. All-map P f xs (h.0 t), λ a. h.1 (All-from_map P f xs a))

-- what holds of each element of the mapped list holds of one that was read
pub read_from_map : {X Y : Type 0} (P : Y → Type 0) (f : X → Y) (xs : List X) (i : ℕ) (x : X) → All P (map f xs) → i < length xs → x ≡ get_or xs i x → P (f x)
read_from_map P f xs i x h l e = let there = All-from_map P f xs h i x l in rw (← e) at there
