-- Entries that ascend.
use Rattle.std.proofs.Common.{◌≡◌, ℕ, zero, suc, ◌<◌, ◌≤◌, Bool, true, false, cond, leb, List, [], ◌∷◌, length, take, get_or, filter, Some, ◌⊎◌, inl, inr, refl}
use Rattle.std.proofs.Common.{sym, ap, ◌∙◌, arith}
use Rattle.std.specs.List.{slice_get}
use Rattle.std.specs.List.Sorted.{IsNonDecreasingBy, IsPartitionPoint}
use Rattle.std.proofs.lemmas.Bool.{leb-true}
use Rattle.pm_directory.specs.declared.entry.DirectoryEntry.{DirectoryEntry}
use Rattle.pm_directory.specs.Directory.{ids_behind, AscendFrom}
use Rattle.pm_directory.specs.Lookup.{up_to}

ids_past : (from : ℕ) (es : List DirectoryEntry) (j : ℕ) (d : DirectoryEntry) → AscendFrom from es → j < length es → from ≤ (get_or es j d).id
ids_past from [] j d h lt = absurd (omega arith)
ids_past from (e ∷ es) zero d h lt = h.0
ids_past from (e ∷ es) (suc j) d h lt = omega (arith, h.0, ids_past (ids_behind e) es j d h.1 (omega arith))

pub ids_rise : (from : ℕ) (es : List DirectoryEntry) → AscendFrom from es → IsNonDecreasingBy (λ e. e.id) es
ids_rise from [] h i j d le lt = absurd (omega arith)
ids_rise from (e ∷ es) h zero zero d le lt = omega arith
ids_rise from (e ∷ es) h zero (suc j) d le lt = omega (arith, ids_past (ids_behind e) es j d h.1 (omega arith))
ids_rise from (e ∷ es) h (suc i) zero d le lt = absurd (omega arith)
ids_rise from (e ∷ es) h (suc i) (suc j) d le lt = ids_rise (ids_behind e) es h.1 i j d (omega arith) (omega arith)

nothing_passes : {X : Type 0} (p : X → Bool) (xs : List X) → ((k : ℕ) (d : X) → k < length xs → p (get_or xs k d) ≡ false) → filter p xs ≡ []
nothing_passes p [] h = refl
nothing_passes p (x ∷ xs) h = rw (h 0 x (omega arith)) (nothing_passes p xs (λ k d lt. h (suc k) d (omega arith)))

-- what passes before a point, and not from it on, is the front
pub front_passes : {X : Type 0} (p : X → Bool) (xs : List X) (n : ℕ) → IsPartitionPoint (λ x. p x ≡ true) (λ x. p x ≡ false) xs n → filter p xs ≡ take n xs
front_passes p [] zero h = refl
front_passes p [] (suc n) h = refl
front_passes p (x ∷ xs) zero h = nothing_passes p (x ∷ xs) (λ k d lt. h.1 k d (omega arith) lt)
front_passes p (x ∷ xs) (suc n) h =
    rw (h.0 0 x (omega arith) (omega arith)) (ap (λ (r : List _). x ∷ r)
    (front_passes p xs n (λ k d low lt. h.0 (suc k) d (omega arith) (omega arith), λ k d low lt. h.1 (suc k) d (omega arith) (omega arith))))

first_get : {X : Type 0} (b : Bool) (y : X) (rest : List X) (k : ℕ) (x : X) → slice_get (cond b (y ∷ rest) rest) k ≡ Some x
    → ((b ≡ true) × (y ≡ x)) ⊎ ((j : ℕ) × (slice_get rest j ≡ Some x))
first_get true y rest zero x e = inl (refl, cc)
first_get true y rest (suc k) x e = inr (k, e)
first_get false y rest k x e = inr (k, e)

passes : {X : Type 0} (p : X → Bool) (xs : List X) (k : ℕ) (x : X) → slice_get (filter p xs) k ≡ Some x → p x ≡ true
passes p [] k x e = absurd cc
passes p (y ∷ ys) k x e =
    elim (first_get (p y) y (filter p ys) k x e) [ inl h ↦ ap p (sym h.1) ∙ h.0 | inr h ↦ passes p ys h.0 x h.1 ]

pub up_to_id : (id : ℕ) (es : List DirectoryEntry) (k : ℕ) (e : DirectoryEntry) → slice_get (up_to id es) k ≡ Some e → e.id ≤ id
up_to_id id es k e h = leb-true e.id id (passes (λ e. leb e.id id) es k e h)
