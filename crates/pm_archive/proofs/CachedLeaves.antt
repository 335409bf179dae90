-- What a cache of leaf directories is after one more was read.
use Rattle.std.proofs.Common.{◌≡◌, ◌⊎◌, ℕ, ◌+◌, ◌≤◌, List, [], ◌∷◌, ◌++◌, inl, inr, refl, sym, ap, subst, ◌∙◌, arith}
use Rattle.std.specs.Prelude.{Bool, true, false, nat_le, if◌then◌else◌}
use Rattle.std.specs.List.{All}
use Rattle.std.proofs.lemmas.Bool.Decides.{nat_tests}
use Rattle.std.proofs.lemmas.List.Elements.{All-nil, All-cons, All-append}
use Rattle.std.proofs.lemmas.List.Sums.{sum_by_push}
use Rattle.pm_archive.specs.declared.limits.TheConstants.{MAX_CACHED_LEAF_BYTES, MAX_CACHED_BYTES}
use Rattle.pm_archive.specs.Lookup.{LeafView, leaf_bytes, bytes_of, IsSmall, left_beside, IsCachedBeside}

-- a directory that isn't too large by itself fits beside those that are left
pub beside_fits : (length : ℕ) (leaves : List LeafView) → length ≤ MAX_CACHED_BYTES → bytes_of (left_beside length leaves) + length ≤ MAX_CACHED_BYTES
beside_fits length leaves small = by (nat_le (bytes_of leaves + length) MAX_CACHED_BYTES) refl
  where
    by : (t : Bool) → nat_le (bytes_of leaves + length) MAX_CACHED_BYTES ≡ t → bytes_of (if t then leaves else []) + length ≤ MAX_CACHED_BYTES
    by true is = grind (arith, nat_tests)
    by false is = omega (arith, small)

-- one is added to those that are left, or memory runs out
pub cached_beside : (leaf : LeafView) (old middle new : List LeafView) → middle ≡ left_beside (leaf_bytes leaf) old
    → (new ≡ middle ++ leaf ∷ []) ⊎ (new ≡ middle) → IsCachedBeside leaf old new
cached_beside leaf old middle new left (inl is) = inl (is ∙ ap (λ leaves. leaves ++ leaf ∷ []) left)
cached_beside leaf old middle new left (inr is) = inr (is ∙ left)

module _ (P : LeafView → Type 0) where
  all_left : (length : ℕ) (leaves : List LeafView) → All P leaves → All P (left_beside length leaves)
  all_left length leaves all = by (nat_le (bytes_of leaves + length) MAX_CACHED_BYTES)
    where
      by : (t : Bool) → All P (if t then leaves else [])
      by true = all
      by false = All-nil P

  -- what is so of the directory and of each that was cached is so of each that is cached then
  pub all_beside : (leaf : LeafView) (old new : List LeafView) → IsCachedBeside leaf old new → P leaf → All P old → All P new
  all_beside leaf old new (inl is) here all =
      subst (All P) (sym is)
      (All-append P (left_beside (leaf_bytes leaf) old) (leaf ∷ []) (all_left (leaf_bytes leaf) old all) (All-cons P leaf [] here (All-nil P)))
  all_beside leaf old new (inr is) here all = subst (All P) (sym is) (all_left (leaf_bytes leaf) old all)

-- what was pushed
pub pushed : (done : Bool) (leaf : LeafView) (old new : List LeafView) → new ≡ (if done then old ++ leaf ∷ [] else old) → done ≡ true → new ≡ old ++ leaf ∷ []
pushed done leaf old new items is = items ∙ ap (λ b. if b then old ++ leaf ∷ [] else old) is

-- and its bytes
pub bytes_pushed : (leaf : LeafView) (leaves : List LeafView) → bytes_of (leaves ++ leaf ∷ []) ≡ bytes_of leaves + leaf_bytes leaf
bytes_pushed leaf leaves = sum_by_push leaf_bytes leaves leaf

pub small_pushed : (leaf : LeafView) (leaves : List LeafView) → IsSmall leaves → leaf_bytes leaf ≤ MAX_CACHED_LEAF_BYTES
    → bytes_of leaves + leaf_bytes leaf ≤ MAX_CACHED_BYTES → IsSmall (leaves ++ leaf ∷ [])
small_pushed leaf leaves small few fits =
    let few_bytes : LeafView → Type 0 = λ l. leaf_bytes l ≤ MAX_CACHED_LEAF_BYTES in
    record {
      each = All-append few_bytes leaves (leaf ∷ []) small.each (All-cons few_bytes leaf [] few (All-nil few_bytes));
      all = omega (arith, bytes_pushed leaf leaves, fits);
    }
