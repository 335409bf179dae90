-- Laws of the different contents of tiles, for the crates above.
use Rattle.std.proofs.Common.{◌≡◌, ℕ, ◌≤◌, inl, inr, List, [], ◌∷◌, ◌++◌, length, Option, Some, None, ap, arith}
use Rattle.std.specs.List.{concat}
use Rattle.pm_build.specs.Different.{contents_of, offset_from, with_content}
use Rattle.pm_build.specs.Indexed.{IsNextOf}
use Rattle.pm_build.specs.Tiles.{Tile}
use Rattle.pm_build.proofs.Different.{by_offset, concat_push, contents_push, with_new, with_there}
use Rattle.pm_build.proofs.Indexing.{next_over}

bytes_with : (cs : List (List ℕ)) (d : List ℕ) → length (concat cs) ≤ length (concat (with_content cs d))
bytes_with cs d = elim (by_offset cs d) [
  | inl there ↦ omega (arith, ap (λ (x : List (List ℕ)). length (concat x)) (with_there cs d there.0 there.1))
  | inr none ↦ omega (arith, ap (λ (x : List (List ℕ)). length (concat x)) (with_new cs d none), concat_push cs d)
]

-- With one tile more they have no fewer bytes.
pub contents_grow : (ts : List Tile) (t : Tile) → length (concat (contents_of ts)) ≤ length (concat (contents_of (ts ++ t ∷ [])))
contents_grow ts t = omega (arith, bytes_with (contents_of ts) t.1, ap (λ (cs : List (List ℕ)). length (concat cs)) (contents_push ts t))

-- If none is left that may be equal to a content, none of the different contents is.
pub none_equal : (contents : List (List ℕ)) (content : List ℕ) (next : Option ℕ) → ((place : ℕ) → next ≡ Some place → ⊥) → IsNextOf contents content next
    → offset_from 0 contents content ≡ None
none_equal = next_over
