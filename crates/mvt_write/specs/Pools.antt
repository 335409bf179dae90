-- Pools: keys and values that a layer holds once and refers to by index.
use Rattle.std.specs.Prelude.{ℕ, not, Bool, List, [], ◌∷◌, ◌++◌, filter, Option, Some, None, if◌then◌else◌}
use Rattle.std.specs.List.{list_any, position_or_len}
use Rattle.std.specs.Str.{bytes_eq}

-- the entries in the order of their first use, each once
unfoldable pub pool_of : List (List ℕ) → List (List ℕ)
pool_of [] = []
pool_of (first ∷ uses) = first ∷ filter (λ entry. not (bytes_eq entry first)) (pool_of uses)

-- the index of an entry of the pool
unfoldable pub index_of : List (List ℕ) → List ℕ → ℕ
index_of pool entry = position_or_len (λ held. bytes_eq held entry) pool

-- whether the pool holds the entry
unfoldable pub has_entry : List (List ℕ) → List ℕ → Bool
has_entry pool entry = list_any (λ held. bytes_eq held entry) pool

-- the pool after one use more
abbrev pub with_entry : List (List ℕ) → List ℕ → List (List ℕ)
with_entry pool entry = if has_entry pool entry then pool else pool ++ entry ∷ []

-- the index of the entry, where the pool holds it
abbrev pub index_in : List (List ℕ) → List ℕ → Option ℕ
index_in pool entry = if has_entry pool entry then Some (index_of pool entry) else None
