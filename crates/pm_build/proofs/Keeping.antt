-- What is kept of tiles when one is added.
use Rattle.std.proofs.Common.{◌≡◌, ◌↔◌, ℕ, ◌+◌, ◌*◌, ◌<◌, ◌≤◌, List, [], ◌∷◌, ◌++◌, length, map, refl, sym, ap, subst, ◌∙◌, arith}
use Rattle.std.specs.List.{AllByRecursion, Contains, concat}
use Rattle.std.proofs.lemmas.List.{length-map}
use Rattle.std.proofs.lemmas.List.Elements.{Contains-push}
use Rattle.pm_build.specs.Bounded.{IsSize}
use Rattle.pm_build.specs.Building.{CanAdd, AreTooMany, AreFew}
use Rattle.pm_build.specs.Different.{with_content, with_contents, contents_of}
use Rattle.pm_build.specs.Firsts.{AreFirsts}
use Rattle.pm_build.specs.Indexed.{IndexView}
use Rattle.pm_build.specs.Joined.{ArePlaces, run_view, run_views, with_tile}
use Rattle.pm_build.specs.Kept.{AreKept, tiles_with}
use Rattle.pm_build.specs.Placed.{AreDifferent}
use Rattle.pm_build.specs.Runs.{TileRun, AreLongestRuns}
use Rattle.pm_build.specs.Tiles.{Tile}
use Rattle.pm_build.specs.declared.limit.TheConstants.{MAX_ENTRIES}
use Rattle.pm_build.specs.declared.run.Run.{Run}
use Rattle.pm_build.proofs.Adding.{grown, longest_with}
use Rattle.pm_build.proofs.Different.{contents_push, contents_of_runs, different_all, used_all, with_none}
use Rattle.pm_build.proofs.FirstTiles.{firsts_more}
use Rattle.pm_build.proofs.Joining.{runs_of_from_longest}

abbrev nothing : IndexView
nothing = record { contents = []; firsts = [] }

none : AreKept nothing [] 0
none = record {
  tiles = (tt, tt);
  longest = record { together = refl; each = tt; longest = tt };
  few = omega arith;
  counted = refl;
  places = tt;
  contents_are = sym (with_none []);
  firsts = tt;
}

-- no tiles
pub none_kept : (v : IndexView) (runs : List Run) (addressed : ℕ) → v ≡ nothing → runs ≡ [] → addressed ≡ 0 → AreKept v runs addressed
none_kept v runs addressed nothing_is empty zero_is =
    subst (λ (n : ℕ). AreKept v runs n) (sym zero_is)
    (subst (λ (rs : List Run). AreKept v rs 0) (sym empty) (subst (λ (w : IndexView). AreKept w [] 0) (sym nothing_is) none))

-- with a tile more
pub record IsAdded (v : IndexView) (runs : List Run) (t : Tile) (w : IndexView) (more : List Run) (addressed : ℕ) : Type 0 where
  pub kept : AreKept w more addressed
  pub tiles_are : tiles_with w more ≡ tiles_with v runs ++ t ∷ []
  pub few : AreFew (tiles_with w more)

pub added : (v w : IndexView) (runs more : List Run) (addressed : ℕ) (t : Tile) → AreKept v runs addressed → CanAdd (tiles_with v runs) t
    → run_views w.contents more ≡ with_tile (run_views v.contents runs) t → w.contents ≡ with_content v.contents t.1
    → ((ts : List Tile) → AreFirsts ts v → Contains ts t → AreFirsts ts w) → ArePlaces w.contents more → length more ≤ MAX_ENTRIES
    → IsAdded v runs t w more (addressed + 1)
added v w runs more addressed t is can grows contents firsts places few =
    let g = grown (run_views v.contents runs) (run_views w.contents more) t is.tiles is.longest can grows in
    let size = length-map more (run_view w.contents) in
    let ts = tiles_with v runs in
    record {
      kept = record {
        tiles = g.tiles;
        longest = g.longest;
        few = few;
        counted = omega (arith, is.counted, g.count);
        places = places;
        contents_are = contents ∙ ap (λ (cs : List (List ℕ)). with_content cs t.1) is.contents_are ∙ sym (contents_push ts t)
            ∙ ap contents_of (sym g.tiles_are);
        firsts = subst (λ (us : List Tile). AreFirsts us w) (sym g.tiles_are)
            (firsts (ts ++ t ∷ []) (firsts_more ts (t ∷ []) v is.firsts) (Contains-push ts t));
      };
      tiles_are = g.tiles_are;
      few = (run_views w.contents more, g.longest, omega (arith, few, size));
    }

-- without
pub record IsSame (v : IndexView) (runs : List Run) (w : IndexView) (more : List Run) (addressed : ℕ) : Type 0 where
  pub kept : AreKept w more addressed
  pub tiles_are : tiles_with w more ≡ tiles_with v runs

pub same : (v w : IndexView) (runs more : List Run) (addressed : ℕ) → AreKept v runs addressed → w ≡ v → more ≡ runs → IsSame v runs w more addressed
same v w runs more addressed is stays runs_stay = record {
  kept = subst (λ (u : IndexView). AreKept u more addressed) (sym stays) (subst (λ (rs : List Run). AreKept v rs addressed) (sym runs_stay) is);
  tiles_are = ap (λ (u : IndexView). tiles_with u more) stays ∙ ap (λ (rs : List Run). tiles_with v rs) runs_stay;
}

-- whether the tiles are too many with one more
pub too_many : (v : IndexView) (runs : List Run) (addressed : ℕ) (t : Tile) → AreKept v runs addressed
    → (MAX_ENTRIES < length (with_tile (run_views v.contents runs) t)) ↔ AreTooMany (tiles_with v runs ++ t ∷ [])
too_many v runs addressed t is = (to, from)
  where
    rs : List TileRun
    rs = with_tile (run_views v.contents runs) t

    longest : AreLongestRuns (tiles_with v runs ++ t ∷ []) rs
    longest = longest_with (run_views v.contents runs) t is.longest

    to : MAX_ENTRIES < length rs → AreTooMany (tiles_with v runs ++ t ∷ [])
    to more = (rs, longest, more)

    from : AreTooMany (tiles_with v runs ++ t ∷ []) → MAX_ENTRIES < length rs
    from (found, are, more) =
        let ts = tiles_with v runs ++ t ∷ [] in
        let is_found : rs ≡ found = sym (runs_of_from_longest ts rs longest) ∙ runs_of_from_longest ts found are in
        omega (arith, more, ap (λ (x : List TileRun). length x) is_found)

-- how long an archive of the tiles is at most
pub size_kept : (v : IndexView) (runs : List Run) (addressed : ℕ) (metadata : List ℕ) (size : ℕ) → AreKept v runs addressed
    → size ≤ 127 + length metadata + 64 * length runs + length (concat v.contents) → IsSize (tiles_with v runs) metadata size
size_kept v runs addressed metadata size is low =
    let rs = run_views v.contents runs in
    let count = length-map runs (run_view v.contents) in
    let ds = map (λ (r : TileRun). r.content) rs in
    let contents : v.contents ≡ with_contents [] ds = is.contents_are ∙ contents_of_runs rs is.longest.each in
    let different : AreDifferent v.contents = subst AreDifferent (sym contents) (different_all [] ds tt) in
    let used = subst (λ (cs : List (List ℕ)). AllByRecursion (λ c. Contains ds c) cs) (sym contents) (used_all ds) in
    (rs, v.contents, is.longest, omega (arith, count, is.few), different, used, omega (arith, count, low))
