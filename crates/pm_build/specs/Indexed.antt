-- What is known of different contents, and how one that is equal is found.
use Rattle.std.specs.Prelude.{◌≡◌, ℕ, suc, ◌+◌, ◌<◌, List, [], ◌∷◌, length, map, slice_index_or, Option, Some, None, ⊤}
use Rattle.std.specs.List.{concat}
use Rattle.std.specs.Ordering.{nat_cmp}
use Rattle.std.specs.BTreeMap.{BTreeMap, get}
use Rattle.pm_build.specs.declared.index.ContentIndex.TheInside.{Inside}
use Rattle.pm_build.specs.declared.index.Stored.{Stored}
use Rattle.pm_build.specs.Different.{content_at}
use Rattle.pm_build.specs.Hashing.{content_hash}
use Rattle.pm_build.specs.Listed.{contents_listed}

-- what contracts see: the contents, and of each the id of the first tile that has it
pub record IndexView : Type 0 where
  pub contents : List (List ℕ)
  pub firsts : List ℕ

abbrev pub index_view : Inside → IndexView
index_view i = record { contents = contents_listed i.listed; firsts = map (λ s. s.first) i.stored.items }

-- each content begins where the one before it ends, the first of them here
abbrev pub AreSpans : (from : ℕ) → List (List ℕ) → List Stored → Type 0
AreSpans from [] [] = ⊤
AreSpans from [] (s ∷ ss) = ⊥
AreSpans from (c ∷ cs) [] = ⊥
AreSpans from (c ∷ cs) (s ∷ ss) = (s.offset ≡ from) × (s.len ≡ length c) × AreSpans (from + length c) cs ss

-- how many contents there are up to this place
abbrev pub up_to : Option ℕ → ℕ
up_to None = 0
up_to (Some place) = suc place

-- the place is that of the last of the first `count` contents that has this hash, if one has it
pub record IsLastOf (contents : List (List ℕ)) (hash count : ℕ) (place : Option ℕ) : Type 0 where
  pub every : (other : ℕ) → other < count → content_hash (content_at contents other) ≡ hash → other < up_to place
  pub there : (last : ℕ) → place ≡ Some last → (last < count) × (content_hash (content_at contents last) ≡ hash)

-- no content after this place is equal to the one that is looked for, and the content there has its hash
pub record IsNextOf (contents : List (List ℕ)) (content : List ℕ) (next : Option ℕ) : Type 0 where
  pub others : (i : ℕ) → i < length contents → content_at contents i ≡ content → i < up_to next
  pub there : (k : ℕ) → next ≡ Some k → (k < length contents) × (content_hash (content_at contents k) ≡ content_hash content)

-- It is known where each content would be stored, and how many bytes all have. From each the one before it with its hash is known, and for
-- each hash the last one.
pub record IsIndexOf (contents : List (List ℕ)) (stored : List Stored) (total : ℕ) (last : BTreeMap ℕ ℕ) : Type 0 where
  pub spans : AreSpans 0 contents stored
  pub total_is : total ≡ length (concat contents)
  pub chained : (place : ℕ) (d : Stored) → place < length stored
      → IsLastOf contents (content_hash (content_at contents place)) place (slice_index_or stored place d).before
  pub last_of : (hash : ℕ) → IsLastOf contents hash (length stored) (get nat_cmp last hash)

abbrev pub IsIndex : Inside → Type 0
IsIndex i = IsIndexOf (contents_listed i.listed) i.stored.items i.total i.last
