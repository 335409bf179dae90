-- Tiles with one more after them, and their runs in a builder.
use Rattle.std.proofs.Common.{◌≡◌, ◌↔◌, ℕ, zero, suc, ◌+◌, ◌<◌, ◌≤◌, List, [], ◌∷◌, ◌++◌, length, get_or, slice_set}
use Rattle.std.proofs.Common.{Bool, true, false, All, refl, sym, ap, subst, ◌∙◌, arith, if◌then◌else◌}
use Rattle.std.specs.List.{AllByRecursion}
use Rattle.std.proofs.lemmas.Bool.{false≢true}
use Rattle.std.proofs.lemmas.List.{length_push, map_push, length-map, length-append}
use Rattle.std.proofs.lemmas.List.Elements.{All-nil, All-cons, All-head, All-tail, All-weaker}
use Rattle.hilbert_id.specs.declared.number.TheConstants.{TILE_IDS}
use Rattle.pm_build.specs.Building.{CanAdd}
use Rattle.pm_build.specs.Different.{content_at, with_content}
use Rattle.pm_build.specs.Joined.{ArePlaces, IsLast, run_view, run_views, last_end, goes_on, run_of, one_more, runs_of, runs_end}
use Rattle.pm_build.specs.Joined.{goes_on_last, last_grown, with_tile}
use Rattle.pm_build.specs.Runs.{TileRun, repeated, tiles_in, AreLongestRuns}
use Rattle.pm_build.specs.Tiles.{Tile, IdsAscend, IsTile, AreTiles}
use Rattle.pm_build.specs.declared.run.Run.{Run}
use Rattle.pm_build.proofs.Different.{at_with, length_with, with_at}
use Rattle.pm_build.proofs.Joining.{HasCount, follows, length_grown, longest_from_runs_of, runs_of_from_longest, runs_push}
use Rattle.pm_build.proofs.Pieces.{all_push}

-- ---- tiles

ids_push : (from : ℕ) (ts : List Tile) (t : Tile) → from ≤ t.0 → IdsAscend from ts → All (λ u. u.0 < t.0) ts → IdsAscend from (ts ++ t ∷ [])
ids_push from [] t le h low = (le, tt)
ids_push from (u ∷ us) t le h low =
    let less = All-head (λ (v : Tile). v.0 < t.0) u us low in
    (h.0, ids_push (suc u.0) us t (omega (arith, less)) h.1 (All-tail (λ v. v.0 < t.0) u us low))

pub tiles_push : (ts : List Tile) (t : Tile) → AreTiles ts → CanAdd ts t → AreTiles (ts ++ t ∷ [])
tiles_push ts t are can = (ids_push 0 ts t (omega arith) are.0 can.0, all_push IsTile ts t are.1 can.1)

-- there are not more tiles than ids
ids_room : (from : ℕ) (ts : List Tile) → IdsAscend from ts → AllByRecursion IsTile ts → from ≤ TILE_IDS → from + length ts ≤ TILE_IDS
ids_room from [] h each le = omega (arith, le)
ids_room from (u ∷ us) h each le = omega (arith, h.0, ids_room (suc u.0) us h.1 each.1 (omega (arith, each.0.0)))

pub tiles_room : (ts : List Tile) → AreTiles ts → length ts ≤ TILE_IDS
tiles_room ts are = let room = ids_room 0 ts are.0 are.1 (omega arith) in omega (arith, room)

-- ---- the id after them

abbrev ids_end : ℕ → List Tile → ℕ
ids_end from [] = from
ids_end from (t ∷ ts) = ids_end (suc t.0) ts

end_above : (from : ℕ) (ts : List Tile) → IdsAscend from ts → from ≤ ids_end from ts
end_above from [] h = omega arith
end_above from (t ∷ ts) h = omega (arith, h.0, end_above (suc t.0) ts h.1)

below_end : (from : ℕ) (ts : List Tile) → IdsAscend from ts → All (λ u. u.0 < ids_end from ts) ts
below_end from [] h = All-nil (λ (u : Tile). u.0 < from)
below_end from (t ∷ ts) h =
    let above = end_above (suc t.0) ts h.1 in
    All-cons (λ (u : Tile). u.0 < ids_end (suc t.0) ts) t ts (omega (arith, above)) (below_end (suc t.0) ts h.1)

end_least : (from : ℕ) (ts : List Tile) (id : ℕ) → from ≤ id → All (λ u. u.0 < id) ts → ids_end from ts ≤ id
end_least from [] id le low = le
end_least from (t ∷ ts) id le low =
    let less = All-head (λ (u : Tile). u.0 < id) t ts low in end_least (suc t.0) ts id (omega (arith, less)) (All-tail (λ u. u.0 < id) t ts low)

end_repeated : (from first count : ℕ) (content : List ℕ) (ts : List Tile)
    → ids_end from (repeated first (suc count) content ++ ts) ≡ ids_end (first + suc count) ts
end_repeated from first zero content ts = let e : suc first ≡ first + 1 = omega arith in ap (λ (n : ℕ). ids_end n ts) e
end_repeated from first (suc count) content ts =
    let e : suc first + suc count ≡ first + suc (suc count) = omega arith in
    end_repeated (suc first) (suc first) count content ts ∙ ap (λ (n : ℕ). ids_end n ts) e

end_run : (from : ℕ) (r : TileRun) (ts : List Tile) → 0 < r.count → ids_end from (repeated r.first r.count r.content ++ ts) ≡ ids_end (r.first + r.count) ts
end_run from r ts some = by r.count refl some
  where
    by : (n : ℕ) → r.count ≡ n → 0 < n → ids_end from (repeated r.first n r.content ++ ts) ≡ ids_end (r.first + r.count) ts
    by zero e some = absurd (omega arith)
    by (suc n) e some = end_repeated from r.first n r.content ts ∙ ap (λ (k : ℕ). ids_end (r.first + k) ts) (sym e)

end_runs : (from : ℕ) (r : TileRun) (rs : List TileRun) → AllByRecursion HasCount (r ∷ rs) → ids_end from (tiles_in (r ∷ rs)) ≡ runs_end (r ∷ rs)
end_runs from r [] h = end_run from r [] h.0.0
end_runs from r (s ∷ rs) h = end_run from r (tiles_in (s ∷ rs)) h.0.0 ∙ end_runs (r.first + r.count) s rs h.1

end_is : (rs : List TileRun) → AllByRecursion HasCount rs → ids_end 0 (tiles_in rs) ≡ runs_end rs
end_is [] h = refl
end_is (r ∷ rs) h = end_runs 0 r rs h

-- a tile can be added if its id is that end or greater
pub can_add : (rs : List TileRun) (t : Tile) → AreTiles (tiles_in rs) → AreLongestRuns (tiles_in rs) rs
    → ((runs_end rs ≤ t.0) × IsTile t) ↔ CanAdd (tiles_in rs) t
can_add rs t are l = (to, from)
  where
    to : (runs_end rs ≤ t.0) × IsTile t → CanAdd (tiles_in rs) t
    to h =
        let end = end_is rs l.each in (
          All-weaker (λ (u : Tile). u.0 < ids_end 0 (tiles_in rs)) (λ u. u.0 < t.0) (λ u lt. omega (arith, lt, end, h.0)) (tiles_in rs)
              (below_end 0 (tiles_in rs) are.0),
          h.1,
        )

    from : CanAdd (tiles_in rs) t → (runs_end rs ≤ t.0) × IsTile t
    from h = let end = end_is rs l.each in (omega (arith, end, end_least 0 (tiles_in rs) t.0 (omega arith) h.0), h.1)

-- ---- whether there are tiles

pub none_in : (cs : List (List ℕ)) (runs : List Run) → length runs ≡ 0 → tiles_in (run_views cs runs) ≡ []
none_in cs [] e = refl
none_in cs (r ∷ runs) e = absurd (omega (arith, e))

pub some_in : (cs : List (List ℕ)) (runs : List Run) → AllByRecursion HasCount (run_views cs runs) → tiles_in (run_views cs runs) ≡ [] → length runs ≡ 0
some_in cs [] h e = refl
some_in cs (r ∷ runs) h e = absurd (by r.count refl h.0.0 e)
  where
    by : (n : ℕ) → r.count ≡ n → 0 < n → repeated r.first n (content_at cs r.place) ++ tiles_in (run_views cs runs) ≡ [] → ⊥
    by zero is some none = omega arith
    by (suc n) is some none = cc

-- ---- the runs with one tile more

-- what the runs of a builder are after a tile was added
pub record IsGrown (ts : List Tile) (t : Tile) (rs : List TileRun) : Type 0 where
  pub tiles_are : tiles_in rs ≡ ts ++ t ∷ []
  pub tiles : AreTiles (tiles_in rs)
  pub longest : AreLongestRuns (tiles_in rs) rs
  pub count : length (tiles_in rs) ≡ length ts + 1

pub grown : (rs new : List TileRun) (t : Tile) → AreTiles (tiles_in rs) → AreLongestRuns (tiles_in rs) rs → CanAdd (tiles_in rs) t
    → new ≡ with_tile rs t → IsGrown (tiles_in rs) t new
grown rs new t are l can is =
    let ts = tiles_in rs in
    let runs : new ≡ runs_of (ts ++ t ∷ []) = is ∙ ap (λ (x : List TileRun). with_tile x t) (sym (runs_of_from_longest ts rs l)) ∙ sym (runs_push ts t) in
    let longest : AreLongestRuns (ts ++ t ∷ []) new = subst (AreLongestRuns (ts ++ t ∷ [])) (sym runs) (longest_from_runs_of (ts ++ t ∷ [])) in
    let same : tiles_in new ≡ ts ++ t ∷ [] = longest.together in
    record {
      tiles_are = same;
      tiles = subst AreTiles (sym same) (tiles_push ts t are can);
      longest = subst (λ (x : List Tile). AreLongestRuns x new) (sym same) longest;
      count = ap (λ (x : List Tile). length x) same ∙ length_push ts t;
    }

-- they are the longest ones of all tiles, added or not
pub longest_with : (rs : List TileRun) (t : Tile) → AreLongestRuns (tiles_in rs) rs → AreLongestRuns (tiles_in rs ++ t ∷ []) (with_tile rs t)
longest_with rs t l =
    let ts = tiles_in rs in
    subst (AreLongestRuns (ts ++ t ∷ []))
    (runs_push ts t ∙ ap (λ (x : List TileRun). with_tile x t) (runs_of_from_longest ts rs l)) (longest_from_runs_of (ts ++ t ∷ []))

-- ---- the last of the runs in memory

pub last_goes_on : (cs : List (List ℕ)) (runs : List Run) (i : ℕ) (d : Run) (t : Tile) → length runs ≡ suc i
    → goes_on_last (run_views cs runs) t ≡ goes_on (run_view cs (get_or runs i d)) t
last_goes_on cs [] i d t e = absurd (omega (arith, e))
last_goes_on cs (r ∷ []) zero d t e = refl
last_goes_on cs (r ∷ []) (suc i) d t e = absurd (omega (arith, e))
last_goes_on cs (r ∷ s ∷ runs) zero d t e = absurd (omega (arith, e))
last_goes_on cs (r ∷ s ∷ runs) (suc i) d t e = last_goes_on cs (s ∷ runs) i d t (omega (arith, e))

pub last_end_at : (runs : List Run) (i : ℕ) (d : Run) → length runs ≡ suc i → last_end runs ≡ (get_or runs i d).first + (get_or runs i d).count
last_end_at [] i d e = absurd (omega (arith, e))
last_end_at (r ∷ []) zero d e = refl
last_end_at (r ∷ []) (suc i) d e = absurd (omega (arith, e))
last_end_at (r ∷ s ∷ runs) zero d e = absurd (omega (arith, e))
last_end_at (r ∷ s ∷ runs) (suc i) d e = last_end_at (s ∷ runs) i d (omega (arith, e))

pub views_end : (cs : List (List ℕ)) (runs : List Run) → runs_end (run_views cs runs) ≡ last_end runs
views_end cs [] = refl
views_end cs (r ∷ []) = refl
views_end cs (r ∷ s ∷ runs) = views_end cs (s ∷ runs)

pub last_set : (cs : List (List ℕ)) (runs : List Run) (i : ℕ) (d new : Run) → length runs ≡ suc i
    → run_view cs new ≡ one_more (run_view cs (get_or runs i d)) → run_views cs (slice_set runs i new) ≡ last_grown (run_views cs runs)
last_set cs [] i d new e grown = absurd (omega (arith, e))
last_set cs (r ∷ []) zero d new e grown = ap (λ (s : TileRun). s ∷ []) grown
last_set cs (r ∷ []) (suc i) d new e grown = absurd (omega (arith, e))
last_set cs (r ∷ s ∷ runs) zero d new e grown = absurd (omega (arith, e))
last_set cs (r ∷ s ∷ runs) (suc i) d new e grown = ap (λ (rs : List TileRun). run_view cs r ∷ rs) (last_set cs (s ∷ runs) i d new (omega (arith, e)) grown)

-- ---- the places of the runs in memory

pub place_at : (cs : List (List ℕ)) (runs : List Run) (i : ℕ) (d : Run) → i < length runs → ArePlaces cs runs → (get_or runs i d).place < length cs
place_at cs [] i d lt h = absurd (omega (arith, lt))
place_at cs (r ∷ runs) zero d lt h = h.0
place_at cs (r ∷ runs) (suc i) d lt h = place_at cs runs i d (omega (arith, lt)) h.1

pub places_set : (cs : List (List ℕ)) (runs : List Run) (i : ℕ) (new : Run) → new.place < length cs → ArePlaces cs runs → ArePlaces cs (slice_set runs i new)
places_set cs [] i new lt h = tt
places_set cs (r ∷ runs) zero new lt h = (lt, h.1)
places_set cs (r ∷ runs) (suc i) new lt h = (h.0, places_set cs runs i new lt h.1)

pub places_more : (cs ds : List (List ℕ)) (runs : List Run) → length cs ≤ length ds → ArePlaces cs runs → ArePlaces ds runs
places_more cs ds [] le h = tt
places_more cs ds (r ∷ runs) le h = ((let low = h.0 in omega (arith, le, low)), places_more cs ds runs le h.1)

pub views_with : (cs : List (List ℕ)) (d : List ℕ) (runs : List Run) → ArePlaces cs runs → run_views (with_content cs d) runs ≡ run_views cs runs
views_with cs d [] h = refl
views_with cs d (r ∷ runs) h =
    ap (λ (c : List ℕ). let v : TileRun = record { first = r.first; count = r.count; content = c } in v ∷ run_views (with_content cs d) runs)
    (at_with cs d r.place h.0)
    ∙ ap (λ (x : List TileRun). run_view cs r ∷ x) (views_with cs d runs h.1)

-- with a run of one tile
pub record IsBegun (cs : List (List ℕ)) (runs : List Run) (t : Tile) (ds : List (List ℕ)) (more : List Run) : Type 0 where
  pub views_are : run_views ds more ≡ run_views cs runs ++ run_of t ∷ []
  pub places : ArePlaces ds more

pub begun : (cs ds : List (List ℕ)) (runs more : List Run) (r : Run) (t : Tile) → ds ≡ with_content cs t.1 → ArePlaces cs runs → r.place < length ds
    → content_at ds r.place ≡ t.1 → r.first ≡ t.0 → r.count ≡ 1 → more ≡ runs ++ r ∷ [] → IsBegun cs runs t ds more
begun cs ds runs more r t grown places lt at first count pushed =
    let same : run_views ds runs ≡ run_views cs runs = ap (λ (x : List (List ℕ)). run_views x runs) grown ∙ views_with cs t.1 runs places in
    let view : run_view ds r ≡ run_of t = λ i. record { first = first i; count = count i; content = at i } in
    let longer : length cs ≤ length ds = omega (arith, length_with cs t.1, ap (λ (x : List (List ℕ)). length x) grown) in
    record {
      views_are = ap (λ (x : List Run). run_views ds x) pushed ∙ map_push (run_view ds) runs r ∙ ap (λ (x : List TileRun). x ++ run_view ds r ∷ []) same
          ∙ ap (λ (v : TileRun). run_views cs runs ++ v ∷ []) view;
      places = subst (λ (x : List Run). ArePlaces ds x) (sym pushed)
          (all_push (λ (x : Run). x.place < length ds) runs r (places_more cs ds runs longer places) lt);
    }

-- a tile that continues the last run has the content of that
pub joined_there : (cs : List (List ℕ)) (runs : List Run) (t : Tile) → ArePlaces cs runs → goes_on_last (run_views cs runs) t ≡ true → cs ≡ with_content cs t.1
joined_there cs [] t places on = absurd (false≢true on)
joined_there cs (r ∷ []) t places on = with_at cs r.place t.1 places.0 (sym (follows (run_view cs r) t on).content_is)
joined_there cs (r ∷ s ∷ runs) t places on = joined_there cs (s ∷ runs) t places.1 on

-- ---- the content of the last run

pub last_is_at : (cs : List (List ℕ)) (runs : List Run) (i : ℕ) (d : Run) (content : List ℕ) → length runs ≡ suc i → IsLast cs runs content
    → content_at cs (get_or runs i d).place ≡ content
last_is_at cs [] i d content e is = absurd (omega (arith, e))
last_is_at cs (r ∷ []) zero d content e is = is
last_is_at cs (r ∷ []) (suc i) d content e is = absurd (omega (arith, e))
last_is_at cs (r ∷ s ∷ runs) zero d content e is = absurd (omega (arith, e))
last_is_at cs (r ∷ s ∷ runs) (suc i) d content e is = last_is_at cs (s ∷ runs) i d content (omega (arith, e)) is

pub last_from_at : (cs : List (List ℕ)) (runs : List Run) (i : ℕ) (d : Run) (content : List ℕ) → length runs ≡ suc i
    → content_at cs (get_or runs i d).place ≡ content → IsLast cs runs content
last_from_at cs [] i d content e is = tt
last_from_at cs (r ∷ []) zero d content e is = is
last_from_at cs (r ∷ []) (suc i) d content e is = absurd (omega (arith, e))
last_from_at cs (r ∷ s ∷ runs) zero d content e is = absurd (omega (arith, e))
last_from_at cs (r ∷ s ∷ runs) (suc i) d content e is = last_from_at cs (s ∷ runs) i d content (omega (arith, e)) is

-- it is the same while the last run has the same place
pub last_kept : (cs : List (List ℕ)) (runs : List Run) (i : ℕ) (d new : Run) (content : List ℕ) → length runs ≡ suc i
    → new.place ≡ (get_or runs i d).place → IsLast cs runs content → IsLast cs (slice_set runs i new) content
last_kept cs [] i d new content e same is = absurd (omega (arith, e))
last_kept cs (r ∷ []) zero d new content e same is = ap (λ (n : ℕ). content_at cs n) same ∙ is
last_kept cs (r ∷ []) (suc i) d new content e same is = absurd (omega (arith, e))
last_kept cs (r ∷ s ∷ runs) zero d new content e same is = absurd (omega (arith, e))
last_kept cs (r ∷ s ∷ []) (suc zero) d new content e same is = ap (λ (n : ℕ). content_at cs n) same ∙ is
last_kept cs (r ∷ s ∷ []) (suc (suc i)) d new content e same is = absurd (omega (arith, e))
last_kept cs (r ∷ s ∷ q ∷ runs) (suc zero) d new content e same is = absurd (omega (arith, e))
last_kept cs (r ∷ s ∷ q ∷ runs) (suc (suc i)) d new content e same is = last_kept cs (s ∷ q ∷ runs) (suc i) d new content (omega (arith, e)) same is

-- and that of a run that is begun
pub last_pushed : (cs : List (List ℕ)) (runs : List Run) (r : Run) (content : List ℕ) → content_at cs r.place ≡ content → IsLast cs (runs ++ r ∷ []) content
last_pushed cs [] r content is = is
last_pushed cs (s ∷ []) r content is = is
last_pushed cs (s ∷ q ∷ runs) r content is = last_pushed cs (q ∷ runs) r content is

-- a tile continues the last run by its content
pub goes_on_by : (cs : List (List ℕ)) (runs : List Run) (i : ℕ) (d : Run) (content : List ℕ) (t : Tile) → length runs ≡ suc i → IsLast cs runs content
    → goes_on (record { first = (get_or runs i d).first; count = (get_or runs i d).count; content = content }) t ≡ goes_on_last (run_views cs runs) t
goes_on_by cs runs i d content t e is =
    let run = get_or runs i d in
    ap (λ (c : List ℕ). let r : TileRun = record { first = run.first; count = run.count; content = c } in goes_on r t)
    (sym (last_is_at cs runs i d content e is))
    ∙ sym (last_goes_on cs runs i d t e)

-- a tile that continues the last run, and one that doesn't
pub with_on : (rs : List TileRun) (t : Tile) → goes_on_last rs t ≡ true → with_tile rs t ≡ last_grown rs
with_on rs t on = ap (λ (b : Bool). if b then last_grown rs else rs ++ run_of t ∷ []) on

pub with_off : (rs : List TileRun) (t : Tile) → goes_on_last rs t ≡ false → with_tile rs t ≡ rs ++ run_of t ∷ []
with_off rs t off = ap (λ (b : Bool). if b then last_grown rs else rs ++ run_of t ∷ []) off

pub few_on : (cs : List (List ℕ)) (runs : List Run) (t : Tile) (n : ℕ) → goes_on_last (run_views cs runs) t ≡ true → length runs ≤ n
    → length (with_tile (run_views cs runs) t) ≤ n
few_on cs runs t n on few =
    let rs = run_views cs runs in
    omega (arith, few, length-map runs (run_view cs), length_grown rs, ap (λ (x : List TileRun). length x) (with_on rs t on))

pub count_off : (cs : List (List ℕ)) (runs : List Run) (t : Tile) → goes_on_last (run_views cs runs) t ≡ false
    → length (with_tile (run_views cs runs) t) ≡ length runs + 1
count_off cs runs t off =
    let rs = run_views cs runs in
    omega (arith, length-map runs (run_view cs), length-append rs (run_of t ∷ []), ap (λ (x : List TileRun). length x) (with_off rs t off))
