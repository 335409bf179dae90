-- The changes of a batch, tested one by one.
use Rattle.std.proofs.Common.{◌≡◌, ◌⊎◌, inl, inr, ⊎_elim, ℕ, ◌<◌, ◌≤◌, ◌+◌, List, [], ◌∷◌, length, get_or, map, take}
use Rattle.std.proofs.Common.{refl, sym, subst, Option, Some, None, arith}
use Rattle.std.specs.Prelude.{IsSome}
use Rattle.std.specs.List.{All, Contains}
use Rattle.std.proofs.lemmas.Bool.{cases_lt}
use Rattle.std.proofs.lemmas.List.{map_more, take_all, get_or-map, length-map}
use Rattle.std.proofs.lemmas.List.Elements.{All-nil, All-cons, All-push, Contains-append_right}
use Rattle.feature_model.specs.Data.{ChangeData, EditData, put, delete, change_data}
use Rattle.feature_model.specs.declared.feature.Change.{Change}
use Rattle.feature_store.specs.Store.{FeatureMap, feature_at}
use Rattle.tile_cutter.specs.Covered.{reach_of}
use Rattle.tile_cutter.specs.declared.reach.TheConstants.{MAX_TILES}
use Rattle.tile_service.specs.Limits.{CoversFewTiles, HasFar}
use Rattle.tile_service.specs.Machine.{HasTarget}

-- ---- a test of each change

module _ (P : ChangeData → Type 0) where
  -- the first changes pass it, and so does the next
  pub passes_step : (i : ℕ) (xs : List Change) (x : Change) → i < length xs → x ≡ get_or xs i x → P (change_data x)
      → All P (map change_data (take i xs)) → All P (map change_data (take (i + 1) xs))
  passes_step i xs x l is passes so_far = subst (All P) (sym (map_more change_data xs i x l))
      (All-push P (map change_data (take i xs)) (change_data (get_or xs i x)) so_far (subst (λ c. P (change_data c)) is passes))

  -- all of them do
  pub passes_all : (i : ℕ) (xs : List Change) → length xs ≤ i → All P (map change_data (take i xs)) → All P (map change_data xs)
  passes_all i xs le so_far = subst (λ ys. All P (map change_data ys)) (take_all i xs le) so_far

  -- what passes with the others passes
  pub passes_there : (i : ℕ) (xs : List Change) (x : Change) → i < length xs → x ≡ get_or xs i x → All P (map change_data xs) → P (change_data x)
  passes_there i xs x l is all = subst (λ c. P (change_data c)) (sym is)
      (subst P (get_or-map change_data xs i x (change_data x) l) (all i (change_data x) (omega (arith, l, length-map xs change_data))))

-- ---- the reach

first_contained : (c : ChangeData) (cs : EditData) → Contains (c ∷ cs) c
first_contained c cs = (0, omega arith, refl)

later_contained : (c d : ChangeData) (cs : EditData) → Contains cs d → Contains (c ∷ cs) d
later_contained c d cs is = Contains-append_right (c ∷ []) cs d is

far_later : (c : ChangeData) (cs : EditData) → HasFar cs → HasFar (c ∷ cs)
far_later c cs far = (far.0, far.1, later_contained c (put far.0 far.1) cs far.2, far.3)

near_or_far : (cs : EditData) → All CoversFewTiles cs ⊎ HasFar cs
near_or_far [] = inl (All-nil CoversFewTiles)
near_or_far (delete id ∷ cs) = ⊎_elim
    (λ (near : All CoversFewTiles cs). inl (All-cons CoversFewTiles (delete id) cs tt near))
    (λ (far : HasFar cs). inr (far_later (delete id) cs far))
    (near_or_far cs)
near_or_far (put id f ∷ cs) = ⊎_elim
    (λ (far : MAX_TILES < reach_of f). inr (id, f, first_contained (put id f) cs, far))
    (λ (near : reach_of f ≤ MAX_TILES). ⊎_elim
    (λ (all : All CoversFewTiles cs). inl (All-cons CoversFewTiles (put id f) cs near all))
    (λ (far : HasFar cs). inr (far_later (put id f) cs far))
    (near_or_far cs))
    (cases_lt MAX_TILES (reach_of f))

-- where not all are near, one sets a feature that covers too many tiles
pub far_from : (cs : EditData) → (All CoversFewTiles cs → ⊥) → HasFar cs
far_from cs not = ⊎_elim (λ (near : All CoversFewTiles cs). absurd (not near)) (λ (far : HasFar cs). far) (near_or_far cs)

-- ---- the features to delete

-- one of the changes deletes a feature that doesn't exist
abbrev pub Lacks : FeatureMap → EditData → Type 0
Lacks m cs = (id : ℕ) × Contains cs (delete id) × (feature_at m id ≡ None)

lacks_later : (m : FeatureMap) (c : ChangeData) (cs : EditData) → Lacks m cs → Lacks m (c ∷ cs)
lacks_later m c cs lacks = (lacks.0, later_contained c (delete lacks.0) cs lacks.1, lacks.2)

some_or_none : {A : Type 0} (o : Option A) → IsSome o ⊎ (o ≡ None)
some_or_none None = inr refl
some_or_none (Some a) = inl refl

has_or_lacks : (m : FeatureMap) (cs : EditData) → All (HasTarget m) cs ⊎ Lacks m cs
has_or_lacks m [] = inl (All-nil (HasTarget m))
has_or_lacks m (put id f ∷ cs) = ⊎_elim
    (λ (all : All (HasTarget m) cs). inl (All-cons (HasTarget m) (put id f) cs tt all))
    (λ (lacks : Lacks m cs). inr (lacks_later m (put id f) cs lacks))
    (has_or_lacks m cs)
has_or_lacks m (delete id ∷ cs) = ⊎_elim
    (λ (has : IsSome (feature_at m id)). ⊎_elim
    (λ (all : All (HasTarget m) cs). inl (All-cons (HasTarget m) (delete id) cs has all))
    (λ (lacks : Lacks m cs). inr (lacks_later m (delete id) cs lacks))
    (has_or_lacks m cs))
    (λ (none : feature_at m id ≡ None). inr (id, first_contained (delete id) cs, none))
    (some_or_none (feature_at m id))

-- where not each exists, one doesn't
pub lacks_from : (m : FeatureMap) (cs : EditData) → (All (HasTarget m) cs → ⊥) → Lacks m cs
lacks_from m cs not = ⊎_elim (λ (all : All (HasTarget m) cs). absurd (not all)) (λ (lacks : Lacks m cs). lacks) (has_or_lacks m cs)
