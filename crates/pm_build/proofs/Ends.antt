-- The first and the last of the tiles of runs.
use Rattle.std.proofs.Common.{◌≡◌, ℕ, zero, suc, ◌+◌, ◌-◌, ◌<◌, List, [], ◌∷◌, ◌++◌, length, get_or, Some, refl, sym, ap, subst, ◌∙◌, arith}
use Rattle.std.specs.List.{AllByRecursion, slice_get}
use Rattle.std.proofs.lemmas.List.{length-append, append-nil}
use Rattle.hilbert_id.specs.declared.number.TheConstants.{TILE_IDS}
use Rattle.pm_build.specs.Different.{content_at}
use Rattle.pm_build.specs.Joined.{run_views, runs_end}
use Rattle.pm_build.specs.Runs.{TileRun, repeated, tiles_in}
use Rattle.pm_build.specs.Tiles.{Tile, IsTile, AreTiles}
use Rattle.pm_build.specs.declared.run.Run.{Run}
use Rattle.pm_build.proofs.Joining.{HasCount}
use Rattle.pm_build.proofs.Tiles.{length-repeated}

first_repeated : (first count : ℕ) (content : List ℕ) (ts : List Tile) → 0 < count → slice_get (repeated first count content ++ ts) 0 ≡ Some (first, content)
first_repeated first zero content ts some = absurd (omega arith)
first_repeated first (suc more) content ts some = refl

-- the first tile is the first one of the first run
pub first_tile : (cs : List (List ℕ)) (runs : List Run) (d : Run) → 0 < length runs → AllByRecursion HasCount (run_views cs runs)
    → slice_get (tiles_in (run_views cs runs)) 0 ≡ Some ((get_or runs 0 d).first, content_at cs (get_or runs 0 d).place)
first_tile cs [] d some h = absurd (omega arith)
first_tile cs (r ∷ runs) d some h = first_repeated r.first r.count (content_at cs r.place) (tiles_in (run_views cs runs)) h.0.0

low_repeated : (first count : ℕ) (content : List ℕ) (ts : List Tile) → 0 < count → AllByRecursion IsTile (repeated first count content ++ ts) → first < TILE_IDS
low_repeated first zero content ts some h = absurd (omega arith)
low_repeated first (suc more) content ts some h = h.0.0

pub first_low : (cs : List (List ℕ)) (runs : List Run) (d : Run) → 0 < length runs → AreTiles (tiles_in (run_views cs runs))
    → AllByRecursion HasCount (run_views cs runs) → (get_or runs 0 d).first < TILE_IDS
first_low cs [] d some are h = absurd (omega arith)
first_low cs (r ∷ runs) d some are h = low_repeated r.first r.count (content_at cs r.place) (tiles_in (run_views cs runs)) h.0.0 are.1

last_repeated : (first more : ℕ) (content : List ℕ) → slice_get (repeated first (suc more) content) more ≡ Some (first + more, content)
last_repeated first zero content = let e : first ≡ first + 0 = omega arith in ap (λ (n : ℕ). let t : Tile = (n, content) in Some t) e
last_repeated first (suc more) content =
    let e : suc first + more ≡ first + suc more = omega arith in
    last_repeated (suc first) more content ∙ ap (λ (n : ℕ). let t : Tile = (n, content) in Some t) e

last_behind : (xs ys : List Tile) → 0 < length ys → slice_get (xs ++ ys) (length (xs ++ ys) - 1) ≡ slice_get ys (length ys - 1)
last_behind [] ys some = refl
last_behind (x ∷ xs) ys some =
    let e : length (x ∷ (xs ++ ys)) - 1 ≡ suc (length (xs ++ ys) - 1) = omega (arith, length-append xs ys) in
    ap (λ (n : ℕ). slice_get (x ∷ (xs ++ ys)) n) e ∙ last_behind xs ys some

-- the last of the tiles, whose id is the one before the end
pub record HasLast (ts : List Tile) (end : ℕ) : Type 0 where
  pub last : Tile
  pub there : slice_get ts (length ts - 1) ≡ Some last
  pub some : 0 < length ts
  pub id_is : last.0 + 1 ≡ end

last_of_run : (r : TileRun) → 0 < r.count → HasLast (repeated r.first r.count r.content) (r.first + r.count)
last_of_run r some = by r.count refl some
  where
    by : (n : ℕ) → r.count ≡ n → 0 < n → HasLast (repeated r.first n r.content) (r.first + r.count)
    by zero e some = absurd (omega arith)
    by (suc n) e some =
        let long = length-repeated r.first (suc n) r.content in
        let at : length (repeated r.first (suc n) r.content) - 1 ≡ n = omega (arith, long) in
        record {
          last = (r.first + n, r.content);
          there = ap (λ (k : ℕ). slice_get (repeated r.first (suc n) r.content) k) at ∙ last_repeated r.first n r.content;
          some = omega (arith, long);
          id_is = omega (arith, e);
        }

last_of_runs : (r : TileRun) (rs : List TileRun) → AllByRecursion HasCount (r ∷ rs) → HasLast (tiles_in (r ∷ rs)) (runs_end (r ∷ rs))
last_of_runs r [] h =
    subst (λ (ts : List Tile). HasLast ts (r.first + r.count)) (sym (append-nil (repeated r.first r.count r.content))) (last_of_run r h.0.0)
last_of_runs r (s ∷ rs) h =
    let behind = last_of_runs s rs h.1 in
    let front = repeated r.first r.count r.content in
    record {
      last = behind.last;
      there = last_behind front (tiles_in (s ∷ rs)) behind.some ∙ behind.there;
      some = (let some = behind.some in omega (arith, some, length-append front (tiles_in (s ∷ rs))));
      id_is = behind.id_is;
    }

pub last_tile : (rs : List TileRun) → 0 < length rs → AllByRecursion HasCount rs → HasLast (tiles_in rs) (runs_end rs)
last_tile [] some h = absurd (omega arith)
last_tile (r ∷ rs) some h = last_of_runs r rs h
