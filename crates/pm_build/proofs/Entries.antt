-- The entries of runs: what an archive wants of them.
use Rattle.std.proofs.Common.{◌≡◌, ℕ, zero, suc, ◌+◌, ◌-◌, ◌<◌, ◌≤◌, ◌^◌, max, List, [], ◌∷◌, ◌++◌, length, map, take, drop, refl, sym, ap, subst, ◌∙◌}
use Rattle.std.proofs.Common.{arith}
use Rattle.std.specs.List.{AllByRecursion, Contains, concat, slice_range}
use Rattle.std.proofs.lemmas.List.{length-append, length-map, take_at, drop_at}
use Rattle.std.proofs.lemmas.List.Elements.{All-contains, All-from_recursion}
use Rattle.hilbert_id.specs.declared.number.TheConstants.{TILE_IDS}
use Rattle.pm_directory.specs.Directory.{AscendFrom, IsEntry}
use Rattle.pm_directory.specs.declared.entry.DirectoryEntry.{DirectoryEntry}
use Rattle.pm_build.specs.Tiles.{Tile, IdsAscend, IsTile, AreTiles}
use Rattle.pm_build.specs.Runs.{TileRun, repeated, tiles_in, AreLongestRuns}
use Rattle.pm_build.specs.Joined.{runs_end}
use Rattle.pm_build.specs.Placed.{Names, EachNames, ArePlaced}
use Rattle.pm_build.specs.Different.{contents_of, with_contents}
use Rattle.pm_build.specs.Offsets.{IsPlaced, EachPlaced, ArePlacedRuns}
use Rattle.pm_build.proofs.Different.{contents_of_runs, used_all, count_all}
use Rattle.pm_build.proofs.Tiles.{IsShort, short_used}
use Rattle.pm_build.proofs.Joining.{HasCount}
use Rattle.pm_build.proofs.Growing.{each_weaker}
use Rattle.pm_build.proofs.Counting.{stands, as_many_spans}

-- ---- an entry names its run

at_place : (bytes front q rest : List ℕ) (k : ℕ) → bytes ≡ front ++ (q ++ rest) → length front ≡ k → slice_range bytes k (k + length q) ≡ q
at_place bytes front q rest k is begins =
    let n : length q ≡ k + length q - k = omega arith in
    ap (λ (x : List ℕ). take (k + length q - k) (drop k x)) is ∙ ap (λ (x : List ℕ). take (k + length q - k) x) (drop_at front (q ++ rest) k begins)
    ∙ take_at q rest (k + length q - k) n

names : (cs : List (List ℕ)) (r : TileRun) (e : DirectoryEntry) → IsPlaced cs r e → Names (concat cs) r e
names cs r e p =
    let s = stands 0 cs r.content e.offset p.offset_is in
    let begins : length s.front ≡ e.offset = (let b = s.begins in omega arith) in
    let long = ap length s.bytes in
    record {
      id_is = p.id_is;
      run_is = p.run_is;
      length_is = p.length_is;
      inside = (let l = p.length_is in omega (arith, long, length-append s.front (r.content ++ s.rest), length-append r.content s.rest));
      content_is =
          ap (λ (n : ℕ). slice_range (concat cs) e.offset (e.offset + n)) p.length_is ∙ at_place (concat cs) s.front r.content s.rest e.offset s.bytes begins;
    }

each_names : (cs : List (List ℕ)) (rs : List TileRun) (es : List DirectoryEntry) → EachPlaced cs rs es → EachNames (concat cs) rs es
each_names cs [] [] h = tt
each_names cs [] (e ∷ es) h = h
each_names cs (r ∷ rs) [] h = h
each_names cs (r ∷ rs) (e ∷ es) h = (names cs r e h.0, each_names cs rs es h.1)

-- the content of each run is among the contents
each_stored : (cs : List (List ℕ)) (rs : List TileRun) (es : List DirectoryEntry) → EachPlaced cs rs es → AllByRecursion (λ r. Contains cs r.content) rs
each_stored cs [] [] h = tt
each_stored cs [] (e ∷ es) h = tt
each_stored cs (r ∷ rs) [] h = absurd h
each_stored cs (r ∷ rs) (e ∷ es) h = ((stands 0 cs r.content e.offset h.0.offset_is).among, each_stored cs rs es h.1)

-- ---- the runs ascend

past_run : (from first count : ℕ) (content : List ℕ) (ts : List Tile) → IdsAscend from (repeated first (suc count) content ++ ts)
    → (from ≤ first) × IdsAscend (first + suc count) ts
past_run from first zero content ts h = let e : suc first ≡ first + 1 = omega arith in (h.0, subst (λ (n : ℕ). IdsAscend n ts) e h.1)
past_run from first (suc count) content ts h =
    let on = past_run (suc first) (suc first) count content ts h.1 in
    let e : suc first + suc count ≡ first + suc (suc count) = omega arith in
    (h.0, subst (λ (n : ℕ). IdsAscend n ts) e on.1)

past : (from : ℕ) (r : TileRun) (ts : List Tile) → 0 < r.count → IdsAscend from (repeated r.first r.count r.content ++ ts)
    → (from ≤ r.first) × IdsAscend (r.first + r.count) ts
past from r ts some h = by r.count refl some h
  where
    by : (n : ℕ) → r.count ≡ n → 0 < n → IdsAscend from (repeated r.first n r.content ++ ts) → (from ≤ r.first) × IdsAscend (r.first + r.count) ts
    by zero e some g = absurd (omega arith)
    by (suc n) e some g = let p = past_run from r.first n r.content ts g in (p.0, subst (λ (k : ℕ). IdsAscend (r.first + k) ts) (sym e) p.1)

ascend : (from : ℕ) (cs : List (List ℕ)) (rs : List TileRun) (es : List DirectoryEntry) → AllByRecursion HasCount rs → EachPlaced cs rs es
    → IdsAscend from (tiles_in rs) → AscendFrom from es
ascend from cs [] [] counts h t = tt
ascend from cs [] (e ∷ es) counts h t = absurd h
ascend from cs (r ∷ rs) [] counts h t = tt
ascend from cs (r ∷ rs) (e ∷ es) counts h t =
    let p = past from r (tiles_in rs) counts.0.0 t in
    let id : e.id ≡ r.first = h.0.id_is in
    let run : e.run ≡ r.count = h.0.run_is in
    let some : 0 < r.count = counts.0.0 in
    let end : r.first + r.count ≡ e.id + max 1 e.run = omega arith in
    (omega (arith, p.0), subst (λ (n : ℕ). AscendFrom n es) end (ascend (r.first + r.count) cs rs es counts.1 h.1 p.1))

-- ---- what an entry may say

record IsRun (r : TileRun) : Type 0 where
  ids_fit : r.first + r.count ≤ TILE_IDS
  some : 0 < length r.content
  length_fits : length r.content < 2 ^ 32

inside_run : (first count : ℕ) (content : List ℕ) (ts : List Tile) → AllByRecursion IsTile (repeated first (suc count) content ++ ts)
    → (first + suc count ≤ TILE_IDS) × (0 < length content) × (length content < 2 ^ 32) × AllByRecursion IsTile ts
inside_run first zero content ts h = ((let low = h.0.0 in omega arith), h.0.1, h.0.2, h.1)
inside_run first (suc count) content ts h = let on = inside_run (suc first) count content ts h.1 in ((let low = on.0 in omega arith), h.0.1, h.0.2, on.3)

inside : (r : TileRun) (ts : List Tile) → 0 < r.count → AllByRecursion IsTile (repeated r.first r.count r.content ++ ts) → IsRun r × AllByRecursion IsTile ts
inside r ts some h = by r.count refl some h
  where
    by : (n : ℕ) → r.count ≡ n → 0 < n → AllByRecursion IsTile (repeated r.first n r.content ++ ts) → IsRun r × AllByRecursion IsTile ts
    by zero e some g = absurd (omega arith)
    by (suc n) e some g =
        let p = inside_run r.first n r.content ts g in (record { ids_fit = (let low = p.0 in omega arith); some = p.1; length_fits = p.2 }, p.3)

are_runs : (rs : List TileRun) → AllByRecursion HasCount rs → AllByRecursion IsTile (tiles_in rs) → AllByRecursion IsRun rs
are_runs [] counts h = tt
are_runs (r ∷ rs) counts h = let p = inside r (tiles_in rs) counts.0.0 h in (p.0, are_runs rs counts.1 p.1)

are_entries : (cs : List (List ℕ)) (rs : List TileRun) (es : List DirectoryEntry) → AllByRecursion HasCount rs → AllByRecursion IsRun rs → EachPlaced cs rs es
    → AllByRecursion IsEntry es
are_entries cs [] [] counts runs h = tt
are_entries cs [] (e ∷ es) counts runs h = absurd h
are_entries cs (r ∷ rs) [] counts runs h = tt
are_entries cs (r ∷ rs) (e ∷ es) counts runs h =
    let id : e.id ≡ r.first = h.0.id_is in
    let run : e.run ≡ r.count = h.0.run_is in
    let long : e.length ≡ length r.content = h.0.length_is in (
      record {
        some = (let p = runs.0.some in omega arith);
        length_fits = (let p = runs.0.length_fits in omega arith);
        run_fits = (let p = counts.0.1 in omega arith);
        ids_fit = (let p = runs.0.ids_fit in omega arith);
        offset_fits = h.0.offset_fits;
      },
      are_entries cs rs es counts.1 runs.1 h.1,
    )

-- ---- all of it

runs_in : (tiles : List Tile) (rs : List TileRun) → AreTiles tiles → AreLongestRuns tiles rs → AllByRecursion IsRun rs
runs_in tiles rs t l = are_runs rs l.each (subst (λ (x : List Tile). AllByRecursion IsTile x) (sym l.together) t.1)

some_of : (rs : List TileRun) → AllByRecursion IsRun rs → AllByRecursion (λ c. 0 < length c) (map (λ r. r.content) rs)
some_of [] h = tt
some_of (r ∷ rs) h = (h.0.some, some_of rs h.1)

pub are_placed : (tiles : List Tile) (rs : List TileRun) (es : List DirectoryEntry) (cs : List (List ℕ)) → AreTiles tiles → AreLongestRuns tiles rs
    → ArePlacedRuns rs es cs → ArePlaced tiles es cs
are_placed tiles rs es cs t l h =
    let runs = runs_in tiles rs t l in
    let P : List ℕ → Type 0 = λ c. 0 < length c in
    let some = each_weaker (λ c. Contains (map (λ r. r.content) rs) c) P
    (λ c k. All-contains P (map (λ r. r.content) rs) c (All-from_recursion P (map (λ r. r.content) rs) (some_of rs runs)) k) cs h.used in
    record {
      runs = rs;
      longest = l;
      named = each_names cs rs es h.each;
      ascending = ascend 0 cs rs es l.each h.each (subst (λ (x : List Tile). IdsAscend 0 x) (sym l.together) t.0);
      each = are_entries cs rs es l.each runs h.each;
      different = h.different;
      used = h.used;
      stored = each_stored cs rs es h.each;
      counted = as_many_spans rs es cs h some;
    }

end_of_runs : (rs : List TileRun) → AllByRecursion IsRun rs → runs_end rs ≤ TILE_IDS
end_of_runs [] h = omega arith
end_of_runs (r ∷ []) h = h.0.ids_fit
end_of_runs (r ∷ s ∷ rs) h = end_of_runs (s ∷ rs) h.1

-- the id after the last run is at most that after the last tile of all
pub end_low : (tiles : List Tile) (rs : List TileRun) → AreTiles tiles → AreLongestRuns tiles rs → runs_end rs ≤ TILE_IDS
end_low tiles rs t l = end_of_runs rs (runs_in tiles rs t l)

short_runs : (rs : List TileRun) → AllByRecursion IsRun rs → AllByRecursion IsShort (map (λ r. r.content) rs)
short_runs [] h = tt
short_runs (r ∷ rs) h = (h.0.length_fits, short_runs rs h.1)

-- the different contents of the tiles have at most 2^49 bytes
pub contents_low : (tiles : List Tile) (rs : List TileRun) → AreTiles tiles → AreLongestRuns tiles rs → length rs ≤ 131072
    → length (concat (contents_of tiles)) ≤ 2 ^ 49
contents_low tiles rs t l few =
    let ds = map (λ (r : TileRun). r.content) rs in
    let is : contents_of tiles ≡ with_contents [] ds = ap (λ (ts : List Tile). contents_of ts) (sym l.together) ∙ contents_of_runs rs l.each in
    let low = short_used ds (with_contents [] ds) (short_runs rs (runs_in tiles rs t l)) (used_all ds) in
    omega (
      arith,
      few,
      low,
      count_all [] ds,
      length-map rs (λ (r : TileRun). r.content),
      ap (λ (cs : List (List ℕ)). length (concat cs)) is,
    )
