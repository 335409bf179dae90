-- The different contents of tiles, in the order of first use.
use Rattle.std.specs.Prelude.{ℕ, ◌+◌, ◌++◌, cond, List, [], ◌∷◌, length, map, slice_index_or, Option, Some, None, is_some}
use Rattle.std.specs.Str.{bytes_eq}
use Rattle.pm_build.specs.Tiles.{Tile}

-- the offset of the first content that is equal to this one, if there is one; the first of all begins at `from`
unfoldable pub offset_from : ℕ → List (List ℕ) → List ℕ → Option ℕ
offset_from from [] content = None
offset_from from (c ∷ cs) content = cond (bytes_eq content c) (Some from) (offset_from (from + length c) cs content)

-- the contents with this one after them, unless it is among them
unfoldable pub with_content : List (List ℕ) → List ℕ → List (List ℕ)
with_content contents content = cond (is_some (offset_from 0 contents content)) contents (contents ++ content ∷ [])

-- the contents with those of these that are new, in this order
unfoldable pub with_contents : List (List ℕ) → List (List ℕ) → List (List ℕ)
with_contents contents [] = contents
with_contents contents (c ∷ cs) = with_contents (with_content contents c) cs

-- the different contents of the tiles, in the order of first use
abbrev pub contents_of : List Tile → List (List ℕ)
contents_of tiles = with_contents [] (map (λ t. t.1) tiles)

-- the content at a place
abbrev pub content_at : List (List ℕ) → ℕ → List ℕ
content_at contents place = slice_index_or contents place []
