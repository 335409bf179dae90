-- What tile entries count.
use Rattle.std.specs.Prelude.{ℕ, ◌+◌, ◌&&◌, Bool, List, [], ◌∷◌, map, nat_eq}
use Rattle.std_collections.specs.Set.{distinct_count}
use Rattle.pm_directory.specs.declared.entry.DirectoryEntry.{DirectoryEntry}

-- how many ids they have a content for
abbrev pub addressed_by : List DirectoryEntry → ℕ
addressed_by [] = 0
addressed_by (e ∷ es) = e.run + addressed_by es

-- the offset and the length of the content of an entry
abbrev pub span_of : DirectoryEntry → ℕ × ℕ
span_of e = (e.offset, e.length)

abbrev pub same_span : ℕ × ℕ → ℕ × ℕ → Bool
same_span p q = nat_eq p.0 q.0 && nat_eq p.1 q.1

-- how many different contents they have, by place
abbrev pub contents_of : List DirectoryEntry → ℕ
contents_of tiles = distinct_count same_span (map span_of tiles)
