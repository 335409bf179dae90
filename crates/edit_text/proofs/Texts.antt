-- One text after another.
use Rattle.std.proofs.Common.{◌≡◌, ℕ, ◌+◌, ◌<◌, ◌≤◌, List, [], ◌∷◌, ◌++◌, length, get_or, map, take, All, refl, sym, ap, ◌∙◌, subst, append_assoc}
use Rattle.std.specs.List.{flat_map}
use Rattle.std.proofs.lemmas.List.{take_all, take_more, flat_map_more, length-map, map-id}
use Rattle.std.proofs.lemmas.List.Elements.{All-map, All-more}
use Rattle.feature_model.specs.declared.feature.World.{World}
use Rattle.feature_model.specs.Data.{TagData, ChangeData}
use Rattle.feature_model.specs.Spelled.{two_bytes, spelled_list, spelled_point, spelled_line, spelled_tag, spelled_tags, spelled_change, spelled_changes}

flat_map-map : {X A : Type 0} (spell : A → List ℕ) (f : X → A) (xs : List X) → flat_map spell (map f xs) ≡ flat_map (λ x. spell (f x)) xs
flat_map-map spell f [] = refl
flat_map-map spell f (x ∷ xs) = ap (λ r. spell (f x) ++ r) (flat_map-map spell f xs)

-- the texts of the first n are appended to what was there, and a fact holds of each of these
pub record IsPut {X A : Type 0} (spell : A → List ℕ) (P : A → Type 0) (f : X → A) (xs : List X) (i : ℕ) (front out : List ℕ) : Type 0 where
  pub text : out ≡ front ++ flat_map (λ x. spell (f x)) (take i xs)
  pub types : All (λ x. P (f x)) (take i xs)

-- one more
pub IsPut-more : {X A : Type 0} (spell : A → List ℕ) (P : A → Type 0) (f : X → A) (xs : List X) (i : ℕ) (d : X) (a : A) (front out next : List ℕ)
    → i < length xs → IsPut spell P f xs i front out → a ≡ f (get_or xs i d) → next ≡ out ++ spell a → P a → IsPut spell P f xs (i + 1) front next
IsPut-more spell P f xs i d a front out next h put is after here = record {
  text = after ∙ ap (λ r. r ++ spell a) put.text ∙ ap (λ r. (front ++ flat_map (λ x. spell (f x)) (take i xs)) ++ spell r) is
      ∙ flat_map_more (λ x. spell (f x)) front (take i xs) (get_or xs i d) ∙ ap (λ r. front ++ flat_map (λ x. spell (f x)) r) (sym (take_more xs i d h));
  types = All-more (λ x. P (f x)) xs i d h put.types (subst P is here);
}

-- the count and all texts
pub text_all : {X A : Type 0} (spell : A → List ℕ) (P : A → Type 0) (f : X → A) (xs : List X) (i : ℕ) (front counted out : List ℕ)
    → length xs ≤ i → counted ≡ front ++ two_bytes (length xs) → IsPut spell P f xs i counted out → out ≡ front ++ spelled_list spell (map f xs)
unfolding spelled_list
text_all spell P f xs i front counted out h count put =
    rw (length-map xs f, flat_map-map spell f xs, ← append_assoc, ← count, ← take_all i xs h) put.text

pub line_all : (P : World → Type 0) (points : List World) (i : ℕ) (front counted out : List ℕ)
    → length points ≤ i → counted ≡ front ++ two_bytes (length points) → IsPut spelled_point P (λ p. p) points i counted out
    → out ≡ front ++ spelled_line points
line_all P points i front counted out h count put = rw (map-id points) at (text_all spelled_point P (λ p. p) points i front counted out h count put)

pub tags_all : {X : Type 0} (P : TagData → Type 0) (f : X → TagData) (xs : List X) (i : ℕ) (front counted out : List ℕ)
    → length xs ≤ i → counted ≡ front ++ length xs ∷ [] → IsPut spelled_tag P f xs i counted out → out ≡ front ++ spelled_tags (map f xs)
unfolding spelled_tags
tags_all P f xs i front counted out h count put =
    put.text ∙ ap (λ r. r ++ flat_map (λ x. spelled_tag (f x)) (take i xs)) count ∙ append_assoc front (length xs ∷ []) _
    ∙ rw (length-map xs f, flat_map-map spelled_tag f xs, take_all i xs h) refl

pub changes_all : {X : Type 0} (P : ChangeData → Type 0) (f : X → ChangeData) (xs : List X) (i : ℕ) (front out : List ℕ)
    → length xs ≤ i → IsPut spelled_change P f xs i front out → out ≡ front ++ spelled_changes (map f xs)
changes_all P f xs i front out h put = put.text ∙ rw (flat_map-map spelled_change f xs, take_all i xs h) refl

-- the fact holds of all of them
pub types_all : {X A : Type 0} (spell : A → List ℕ) (P : A → Type 0) (f : X → A) (xs : List X) (i : ℕ) (front out : List ℕ) → length xs ≤ i
    → IsPut spell P f xs i front out → All P (map f xs)
types_all spell P f xs i front out h put = All-map P f xs (rw (take_all i xs h) at put.types)

pub points_types_all : (P : World → Type 0) (points : List World) (i : ℕ) (front out : List ℕ) → length points ≤ i
    → IsPut spelled_point P (λ p. p) points i front out → All P points
points_types_all P points i front out h put = rw (take_all i points h) at put.types
