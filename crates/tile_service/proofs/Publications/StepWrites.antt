-- The writes of a step of a publication into the area of the next generation.
use Rattle.std.proofs.Common.{◌≡◌, ◌⊎◌, inl, inr, ⊎_elim, ℕ, suc, ◌<◌, ◌≤◌, ◌+◌, List, Result, ap, sym, ◌∙◌, subst, arith}
use Rattle.sector_disk.specs.Disk.{History, Image, MayHold, MayLeave, seen, moment, FailedWrite, Writes}
use Rattle.sector_disk.specs.Disk.History.{synced}
use Rattle.sector_disk.specs.Moments.{LeavesOnly}
use Rattle.sector_disk.specs.declared.disk.DiskFault.{DiskFault}
use Rattle.sector_disk.proofs.History.{seen_other, seen_may, sync_leaves, then_leaves}
use Rattle.generations.specs.Areas.{area_sectors, area_start}
use Rattle.area_content.specs.Content.{ContentView, sector_at}
use Rattle.area_content.proofs.Laws.{snapshot_sector, archive_sector}
use Rattle.tile_service.specs.Publishing.{IsContentSector, IsInArea, IsBeside, HasFirst}
use Rattle.tile_service.specs.Stored.{Stored, Holds, Keeps}
use Rattle.tile_service.proofs.Publications.AreaContents.{content_sector}
use Rattle.tile_service.proofs.Publications.AfterWrites.{write_area_keeps, write_area_leaves}

-- a write, reported as done or as failed, takes one moment at most
pub write_moment : (at : ℕ) (bytes : List ℕ) (old new : History) → FailedWrite at bytes old new → moment new ≤ moment old + 1
write_moment at bytes old new (inl is) = omega (arith, ap moment is)
write_moment at bytes old new (inr (inl is)) = omega (arith, ap moment is)
write_moment at bytes old new (inr (inr is)) = omega (arith, ap moment is)

-- a sync, reported as done or as failed, takes one moment at most, changes nothing that a read gives, and leaves what is stored
module _ (old new : History) (syncs : (new ≡ old) ⊎ (new ≡ synced old)) where
  pub sync_first : (n generation : ℕ) (snapshot archive : List ℕ) (written : ℕ) → HasFirst n generation snapshot archive written (seen old)
      → HasFirst n generation snapshot archive written (seen new)
  sync_first n generation snapshot archive written first = ⊎_elim
      (λ same. subst (λ (h : History). HasFirst n generation snapshot archive written (seen h)) (sym same) first)
      (λ is. subst (λ (h : History). HasFirst n generation snapshot archive written (seen h)) (sym is) first) syncs

  pub sync_keeps : (count n : ℕ) (stored : Stored) → Keeps count n stored old → Keeps count n stored new
  sync_keeps count n stored keeps = ⊎_elim
      (λ same. subst (λ (h : History). Keeps count n stored h) (sym same) keeps)
      (λ is. subst (λ (h : History). Keeps count n stored h) (sym is)
      (λ (image : Image) (may : MayLeave (synced old) image).
      keeps image (λ (at : ℕ). subst (λ (x : List ℕ). MayHold old at x) (sym (may at)) (seen_may old at)))) syncs

  pub sync_holds : (count n : ℕ) (stored : Stored) (start : History) → LeavesOnly start old (Holds count n stored) → Keeps count n stored old
      → LeavesOnly start new (Holds count n stored)
  sync_holds count n stored start so_far keeps = sync_leaves start old new (Holds count n stored) syncs so_far (sync_keeps count n stored keeps)

-- what is written of a content is its sectors
pub is_content_sector : (c : ContentView) (index : ℕ) → IsContentSector c.snapshot c.archive index (sector_at c index)
is_content_sector c index = content_sector c.snapshot c.archive (sector_at c) (snapshot_sector c) (archive_sector c) index

module _ (count n : ℕ) (stored : Stored) (generation index : ℕ) (sector : List ℕ) (result : Result (Unit {0}) DiskFault) (old new : History)
    (writes : Writes result (area_start n generation + index) sector old new) (next : generation ≡ suc stored.generation) (lt : index < area_sectors n)
    (keeps : Keeps count n stored old) where
  written : Writes result (area_start n (suc stored.generation) + index) sector old new
  written = subst (λ (g : ℕ). Writes result (area_start n g + index) sector old new) next writes

  inside : IsInArea n (suc stored.generation) (area_start n (suc stored.generation) + index)
  inside = (omega arith, omega (arith, lt))

  -- A write into the area of the generation after what is stored leaves that.
  pub next_area_keeps : Keeps count n stored new
  next_area_keeps = write_area_keeps count n stored old new (area_start n (suc stored.generation) + index) sector result written inside keeps

  pub next_area_leaves : (start : History) → LeavesOnly start old (Holds count n stored) → LeavesOnly start new (Holds count n stored)
  next_area_leaves start so_far = then_leaves start old new (Holds count n stored) so_far
      (write_area_leaves count n stored old new (area_start n (suc stored.generation) + index) sector result written inside keeps)

-- Nor does it change what a read gives outside of that area.
module _ (n generation : ℕ) (start old new : History) (beside : IsBeside n generation (seen start) (seen old)) where
  pub write_beside : (index : ℕ) (sector : List ℕ) → index < area_sectors n → FailedWrite (area_start n generation + index) sector old new
      → IsBeside n generation (seen start) (seen new)
  write_beside index sector lt (inl same) = subst (λ (h : History). IsBeside n generation (seen start) (seen h)) (sym same) beside
  write_beside index sector lt (inr (inl is)) = subst (λ (h : History). IsBeside n generation (seen start) (seen h)) (sym is)
      (λ at out. seen_other (area_start n generation + index) sector old at (λ same. out (omega (arith, same), omega (arith, same, lt))) ∙ beside at out)
  write_beside index sector lt (inr (inr is)) = subst (λ (h : History). IsBeside n generation (seen start) (seen h)) (sym is) beside

  pub sync_beside : (new ≡ old) ⊎ (new ≡ synced old) → IsBeside n generation (seen start) (seen new)
  sync_beside (inl same) = subst (λ (h : History). IsBeside n generation (seen start) (seen h)) (sym same) beside
  sync_beside (inr is) = subst (λ (h : History). IsBeside n generation (seen start) (seen h)) (sym is) beside
