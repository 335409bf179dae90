-- The longest runs as a function of the tiles.
use Rattle.std.specs.Prelude.{◌≡◌, ℕ, ◌+◌, ◌<◌, ◌&&◌, Bool, false, cond, if◌then◌else◌, List, [], ◌∷◌, ◌++◌, length, map, nat_eq, nat_lt, ⊤}
use Rattle.std.specs.List.{AllByRecursion}
use Rattle.std.specs.Str.{bytes_eq}
use Rattle.pm_build.specs.declared.run.Run.{Run}
use Rattle.pm_build.specs.Different.{content_at}
use Rattle.pm_build.specs.Tiles.{Tile}
use Rattle.pm_build.specs.Runs.{TileRun}

-- each run's place is that of one of these contents
abbrev pub ArePlaces : List (List ℕ) → List Run → Type 0
ArePlaces contents runs = AllByRecursion (λ r. r.place < length contents) runs

-- a run as contracts see it, by the different contents
abbrev pub run_view : List (List ℕ) → Run → TileRun
run_view contents r = record { first = r.first; count = r.count; content = content_at contents r.place }

abbrev pub run_views : List (List ℕ) → List Run → List TileRun
run_views contents runs = map (run_view contents) runs

-- the id after the last tile of the runs, or 0
abbrev pub last_end : List Run → ℕ
last_end [] = 0
last_end (r ∷ []) = r.first + r.count
last_end (r ∷ s ∷ rs) = last_end (s ∷ rs)

-- the last of the runs has this content
abbrev pub IsLast : List (List ℕ) → List Run → List ℕ → Type 0
IsLast contents [] content = ⊤
IsLast contents (r ∷ []) content = content_at contents r.place ≡ content
IsLast contents (r ∷ s ∷ rs) content = IsLast contents (s ∷ rs) content

-- whether the tile continues the run
abbrev pub goes_on : TileRun → Tile → Bool
goes_on r t = nat_eq t.0 (r.first + r.count) && (nat_lt r.count 4294967295 && bytes_eq t.1 r.content)

-- the run of one tile
abbrev pub run_of : Tile → TileRun
run_of t = record { first = t.0; count = 1; content = t.1 }

-- the run with one tile more
abbrev pub one_more : TileRun → TileRun
one_more r = record { first = r.first; count = r.count + 1; content = r.content }

-- this run, continued as far as it goes, and the runs of the tiles after it
unfoldable pub runs_from : TileRun → List Tile → List TileRun
runs_from r [] = r ∷ []
runs_from r (t ∷ ts) = cond (goes_on r t) (runs_from (one_more r) ts) (r ∷ runs_from (run_of t) ts)

-- the longest runs of the tiles
unfoldable pub runs_of : List Tile → List TileRun
runs_of [] = []
runs_of (t ∷ ts) = runs_from (run_of t) ts

-- ---- one tile after the other

-- the id after the last tile of the runs
abbrev pub runs_end : List TileRun → ℕ
runs_end [] = 0
runs_end (r ∷ []) = r.first + r.count
runs_end (r ∷ s ∷ rs) = runs_end (s ∷ rs)

-- whether the tile continues the last run
abbrev pub goes_on_last : List TileRun → Tile → Bool
goes_on_last [] t = false
goes_on_last (r ∷ []) t = goes_on r t
goes_on_last (r ∷ s ∷ rs) t = goes_on_last (s ∷ rs) t

-- the runs, the last with one tile more
abbrev pub last_grown : List TileRun → List TileRun
last_grown [] = []
last_grown (r ∷ []) = one_more r ∷ []
last_grown (r ∷ s ∷ rs) = r ∷ last_grown (s ∷ rs)

-- the runs with one tile more, which continues the last of them or is a run of its own
abbrev pub with_tile : List TileRun → Tile → List TileRun
with_tile rs t = if goes_on_last rs t then last_grown rs else rs ++ run_of t ∷ []
