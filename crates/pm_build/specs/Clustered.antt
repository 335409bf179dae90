-- Entries whose contents are stored in the order of their first use (PMTiles 3, `clustered` of the header).
use Rattle.std.specs.Prelude.{◌≡◌, ℕ, ◌+◌, ◌≤◌, ◌⊎◌, max, List, [], ◌∷◌, ⊤}
use Rattle.pm_directory.specs.declared.entry.DirectoryEntry.{DirectoryEntry}

-- the end of the contents of these entries, if those before them end here
abbrev pub end_of : ℕ → List DirectoryEntry → ℕ
end_of end [] = end
end_of end (e ∷ es) = end_of (max end (e.offset + e.length)) es

-- the contents before these entries end here, and each entry's content begins at the end of those before it, or is among them
abbrev pub IsClustered : ℕ → List DirectoryEntry → Type 0
IsClustered end [] = ⊤
IsClustered end (e ∷ es) = ((e.offset ≡ end) ⊎ (e.offset + e.length ≤ end)) × IsClustered (max end (e.offset + e.length)) es
