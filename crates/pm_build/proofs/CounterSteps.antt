-- What is kept of tiles that are counted, when one is added.
use Rattle.std.proofs.Common.{◌≡◌, ◌≢◌, ◌<◌, ◌≤◌, ◌+◌, ◌^◌, ◌↔◌, ℕ, List, [], ◌∷◌, ◌++◌, length, Option, Some, true, false, sym, ap, subst, ◌∙◌, arith}
use Rattle.std.specs.List.{Contains, concat}
use Rattle.std.proofs.lemmas.List.{length-map, length-append}
use Rattle.pm_build.specs.Building.{AreTooMany, BeginsRun, CanAdd}
use Rattle.pm_build.specs.Different.{content_at, contents_of, with_content}
use Rattle.pm_build.specs.Firsts.{AreFirsts}
use Rattle.pm_build.specs.Hashing.{content_hash}
use Rattle.pm_build.specs.Indexed.{IndexView, IsLastOf, IsNextOf}
use Rattle.pm_build.specs.Joined.{ArePlaces, run_view, run_views, goes_on_last, last_grown}
use Rattle.pm_build.specs.Kept.{AreKept, tiles_with}
use Rattle.pm_build.specs.Runs.{TileRun, AreLongestRuns}
use Rattle.pm_build.specs.Tiles.{Tile}
use Rattle.pm_build.specs.declared.limit.TheConstants.{MAX_ENTRIES}
use Rattle.pm_build.specs.declared.run.Run.{Run}
use Rattle.pm_build.proofs.Adding.{begun, count_off, joined_there, with_off, with_on}
use Rattle.pm_build.proofs.Entries.{contents_low}
use Rattle.pm_build.proofs.Indexing.{next_first, next_before}
use Rattle.pm_build.proofs.Joining.{runs_of_from_longest}
use Rattle.pm_build.proofs.Keeping.{IsAdded, added, too_many}

-- a tile that continues the last run
pub joined : (v : IndexView) (runs new : List Run) (addressed : ℕ) (t : Tile) → AreKept v runs addressed → CanAdd (tiles_with v runs) t
    → goes_on_last (run_views v.contents runs) t ≡ true → run_views v.contents new ≡ last_grown (run_views v.contents runs)
    → ArePlaces v.contents new → length new ≡ length runs → IsAdded v runs t v new (addressed + 1)
joined v runs new addressed t is can on grows places size =
    added v v runs new addressed t is can (grows ∙ sym (with_on (run_views v.contents runs) t on))
    (joined_there v.contents runs t is.places on) (λ ts h there. h) places (omega (arith, size, is.few))

module _ (v : IndexView) (runs : List Run) (addressed : ℕ) (is : AreKept v runs addressed) where
  -- how many bytes the contents have at most
  pub bytes_low : length (concat v.contents) ≤ 2 ^ 49
  bytes_low =
      omega (
        arith,
        ap (λ (cs : List (List ℕ)). length (concat cs)) is.contents_are,
        contents_low (tiles_with v runs) (run_views v.contents runs) is.tiles is.longest (omega (arith, is.few, length-map runs (run_view v.contents))),
      )

  -- the last content that may be equal to one
  pub last_like : (tiles : List Tile) (content : List ℕ) (hash : ℕ) (last : Option ℕ) → tiles_with v runs ≡ tiles → hash ≡ content_hash content
      → IsLastOf v.contents hash (length v.contents) last → IsNextOf (contents_of tiles) content last
  last_like tiles content hash last same hash_is found =
      subst (λ (ts : List Tile). IsNextOf (contents_of ts) content last) same
      (subst (λ (cs : List (List ℕ)). IsNextOf cs content last) is.contents_are
      (next_first v.contents content last (subst (λ (h : ℕ). IsLastOf v.contents h (length v.contents) last) hash_is found)))

  -- and the one before it
  pub like_before : (tiles : List Tile) (content : List ℕ) (place : ℕ) (before : Option ℕ) → tiles_with v runs ≡ tiles
      → IsLastOf v.contents (content_hash (content_at v.contents place)) place before → IsNextOf (contents_of tiles) content (Some place)
      → content_at (contents_of tiles) place ≢ content → IsNextOf (contents_of tiles) content before
  like_before tiles content place before same found next other =
      let last : IsLastOf (contents_of tiles) (content_hash (content_at (contents_of tiles) place)) place before =
      subst (λ (ts : List Tile). IsLastOf (contents_of ts) (content_hash (content_at (contents_of ts) place)) place before) same
      (subst (λ (cs : List (List ℕ)). IsLastOf cs (content_hash (content_at cs place)) place before) is.contents_are found) in
      next_before (contents_of tiles) content place before next other last

  -- a tile that begins a run makes too many of them if there are as many as an archive has entries
  pub begins_off : (tiles : List Tile) (t : Tile) → tiles_with v runs ≡ tiles → BeginsRun tiles t → goes_on_last (run_views v.contents runs) t ≡ false
  begins_off tiles t same (found, longest, off) =
      let mine : AreLongestRuns tiles (run_views v.contents runs) = subst (λ (ts : List Tile). AreLongestRuns ts (run_views v.contents runs)) same is.longest in
      let is_found : run_views v.contents runs ≡ found =
      sym (runs_of_from_longest tiles (run_views v.contents runs) mine) ∙ runs_of_from_longest tiles found longest in
      ap (λ (rs : List TileRun). goes_on_last rs t) is_found ∙ off

  pub many_begun : (tiles : List Tile) (t : Tile) → tiles_with v runs ≡ tiles → BeginsRun tiles t → (MAX_ENTRIES ≤ length runs) ↔ AreTooMany (tiles ++ t ∷ [])
  many_begun tiles t same begins =
      let count = count_off v.contents runs t (begins_off tiles t same begins) in
      let test = too_many v runs addressed t is in (
        λ more. subst (λ (ts : List Tile). AreTooMany (ts ++ t ∷ [])) same (test.0 (omega (arith, more, count))),
        λ many. let more = test.1 (subst (λ (ts : List Tile). AreTooMany (ts ++ t ∷ [])) (sym same) many) in omega (arith, more, count),
      )

  -- it is a run of its own
  pub begun_one : (w : IndexView) (more : List Run) (r : Run) (t : Tile) → CanAdd (tiles_with v runs) t → goes_on_last (run_views v.contents runs) t ≡ false
      → w.contents ≡ with_content v.contents t.1 → ((ts : List Tile) → AreFirsts ts v → Contains ts t → AreFirsts ts w)
      → r.place < length w.contents → content_at w.contents r.place ≡ t.1 → r.first ≡ t.0 → r.count ≡ 1 → more ≡ runs ++ r ∷ []
      → length runs < MAX_ENTRIES → IsAdded v runs t w more (addressed + 1)
  begun_one w more r t can off contents firsts lt at first count pushed few =
      let b = begun v.contents w.contents runs more r t contents is.places lt at first count pushed in
      added v w runs more addressed t is can (b.views_are ∙ sym (with_off (run_views v.contents runs) t off)) contents firsts b.places
      (omega (arith, few, ap (λ (rs : List Run). length rs) pushed, length-append runs (r ∷ [])))

  -- the first tile with a content is among them
  pub first_with : (tiles : List Tile) (place id : ℕ) (first : ℕ) → tiles_with v runs ≡ tiles → place < length (contents_of tiles)
      → Contains (tiles_with v runs) (first, content_at v.contents place) → id ≡ first → Contains tiles (id, content_at (contents_of tiles) place)
  first_with tiles place id first same lt there id_is =
      subst (λ (n : ℕ). Contains tiles (n, content_at (contents_of tiles) place)) (sym id_is)
      (subst (λ (ts : List Tile). Contains ts (first, content_at (contents_of ts) place)) same
      (subst (λ (cs : List (List ℕ)). Contains (tiles_with v runs) (first, content_at cs place)) is.contents_are there))
