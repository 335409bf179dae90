-- A root is written once everything that it names outlives a crash.
use Rattle.std.proofs.Common.{◌≡◌, ◌⊎◌, inl, inr, ⊎_elim, ℕ, ◌≤◌, ◌+◌, ◌%◌, suc, List, Result, refl, sym, ◌∙◌, ap, subst, arith}
use Rattle.std.proofs.lemmas.Bool.{cases_eq}
use Rattle.sector_disk.specs.Disk.{History, Image, seen, MayHold, MayLeave, Syncs}
use Rattle.sector_disk.specs.Disk.History.{wrote, synced}
use Rattle.sector_disk.specs.Moments.{LeavesOnly}
use Rattle.sector_disk.specs.declared.disk.DiskFault.{DiskFault}
use Rattle.sector_disk.proofs.History.{started, seen_may, seen_same, seen_other, any_sync, sync_within, sync_leaves, fits_image, weaken, then_leaves}
use Rattle.generations.specs.Disks.{HasRoot, LiveRoot}
use Rattle.generations.specs.Installs.{root_at, WithRoot, Installs}
use Rattle.generations.specs.Sectors.{root_sector, AreNumbers, CanStand, IsFormat, IsNoRoot, IsRootOf, IsRootSector}
use Rattle.generations.specs.Written.{IsOldOr}
use Rattle.generations.specs.declared.root.Root.{Root}
use Rattle.generations.proofs.Laws.{one_root}

module _ (root : Root) (start : History) where
  -- the first sync leaves what there was
  pub begun_leaves : (told : Result (Unit {0}) DiskFault) (h : History) → Syncs told start h → LeavesOnly start h (Installs root start)
  begun_leaves told h syncs = sync_leaves start start h (Installs root start) (any_sync told start h syncs)
      (started start (Installs root start) (λ image may. inl may))
      (fits_image h (MayHold start) (Installs root start)
      (sync_within start h (MayHold start) (any_sync told start h syncs) (λ at left may. may)) (λ image fits. inl fits))

  -- Each sector has what a read gave, or the root in its own.
  module _ (h : History) (is : h ≡ synced start) where
    in_sector : (image : Image) → ((at : ℕ) → IsOldOr h (root_at root.generation) (root_sector root) at (image at)) → (at : ℕ)
        → (image at ≡ seen start at) ⊎ ((at ≡ root_at root.generation) × (image at ≡ root_sector root))
    in_sector image fits at =
        subst (λ (x : History). MayHold x at (image at) ⊎ ((at ≡ root_at root.generation) × (image at ≡ root_sector root))) is (fits at)

    install_image : (image : Image) → ((at : ℕ) → IsOldOr h (root_at root.generation) (root_sector root) at (image at)) → Installs root start image
    install_image image fits = ⊎_elim
        (λ (old : image (root_at root.generation) ≡ seen start (root_at root.generation)). inl (λ at. ⊎_elim
        (λ (same : image at ≡ seen start at). subst (MayHold start at) (sym same) (seen_may start at))
        (λ (w : (at ≡ root_at root.generation) × (image at ≡ root_sector root)).
        subst (λ (k : ℕ). MayHold start k (image k)) (sym w.0)
        (subst (MayHold start (root_at root.generation)) (sym old) (seen_may start (root_at root.generation))))
        (in_sector image fits at)))
        (λ (new : (root_at root.generation ≡ root_at root.generation) × (image (root_at root.generation) ≡ root_sector root)). inr (record {
          stands = new.1;
          others = λ at apart. ⊎_elim (λ (same : image at ≡ seen start at). same)
              (λ (w : (at ≡ root_at root.generation) × (image at ≡ root_sector root)). absurd (apart w.0)) (in_sector image fits at);
        }))
        (in_sector image fits (root_at root.generation))

    -- and so does the write of the root with the sync before it
    pub written_leaves : (told : Result (Unit {0}) DiskFault) → Syncs told start h → (bytes : List ℕ) → bytes ≡ root_sector root → (after : History)
        → LeavesOnly h after (λ image. (at : ℕ) → IsOldOr h (root_at root.generation) bytes at (image at)) → LeavesOnly start after (Installs root start)
    written_leaves told syncs bytes same after leaves = then_leaves start h after (Installs root start) (begun_leaves told h syncs)
        (weaken h after _ (Installs root start) leaves (λ image fits. install_image image
        (subst (λ (b : List ℕ). (at : ℕ) → IsOldOr h (root_at root.generation) b at (image at)) same fits)))

-- ---- once it is installed

-- each image has the root, and else what a read gave
pub installed_image : (root : Root) (start after : History) → after ≡ synced (wrote (root_at root.generation) (root_sector root) (synced start))
    → (image : Image) → MayLeave after image → WithRoot root (seen start) image
installed_image root start after is image may = record {
  stands = reads (root_at root.generation) ∙ seen_same (root_at root.generation) (root_sector root) (synced start) (root_at root.generation) refl;
  others = λ at apart. reads at ∙ seen_other (root_at root.generation) (root_sector root) (synced start) at apart;
}
  where
    reads : (at : ℕ) → image at ≡ seen (wrote (root_at root.generation) (root_sector root) (synced start)) at
    reads at = subst (λ (h : History). MayHold h at (image at)) is (may at)

-- ---- the root that counts then

module _ (count n : ℕ) (before image : Image) (old root : Root) (lives : LiveRoot count before n old) (with_root : WithRoot root before image)
    (next : root.generation ≡ suc old.generation) (numbers : AreNumbers root) (can : CanStand n root) where
  -- the sector of its parity has the root
  stands_there : (parity : ℕ) → root.generation % 2 ≡ parity → IsRootOf n parity (image (1 + parity)) root
  stands_there parity is = record {
    stands = record { bytes = subst (λ (k : ℕ). image (1 + k) ≡ root_sector root) is with_root.stands; numbers = numbers };
    parity_is = is;
    can = can;
  }

  -- and no other root has so great a generation
  later : (other : Root) → HasRoot n before other → other.generation ≤ root.generation
  later other has = omega (arith, lives.greatest other has, next)

  same : (sector : List ℕ) (other : Root) → IsRootSector sector root → IsRootSector sector other → other.generation ≤ root.generation
  same sector other is too =
      let generation : other.generation ≡ root.generation = ap (λ (r : Root). r.generation) (one_root sector other root too is) in
      omega (arith, generation)

  format_stays : IsFormat count (image 0) n
  format_stays = subst (λ (sector : List ℕ). IsFormat count sector n) (sym (with_root.others 0 (λ is. omega (arith, is)))) lives.format

  even_lives : root.generation % 2 ≡ 0 → LiveRoot count image n root
  even_lives is =
      let here : IsRootOf n 0 (image 1) root = stands_there 0 is in
      let stays : image 2 ≡ before 2 = with_root.others 2 (λ at. omega (arith, at, is)) in
      record {
        format = format_stays;
        even = inr (root, here);
        odd = subst (λ (sector : List ℕ). IsNoRoot sector ⊎ ((r : Root) × IsRootOf n 1 sector r)) (sym stays) lives.odd;
        stands = inl here;
        greatest = λ other has. ⊎_elim (λ (first : IsRootOf n 0 (image 1) other). same (image 1) other here.stands first.stands)
            (λ (second : IsRootOf n 1 (image 2) other). later other (inr (subst (λ (sector : List ℕ). IsRootOf n 1 sector other) stays second))) has;
      }

  odd_lives : root.generation % 2 ≡ 1 → LiveRoot count image n root
  odd_lives is =
      let here : IsRootOf n 1 (image 2) root = stands_there 1 is in
      let stays : image 1 ≡ before 1 = with_root.others 1 (λ at. omega (arith, at, is)) in
      record {
        format = format_stays;
        even = subst (λ (sector : List ℕ). IsNoRoot sector ⊎ ((r : Root) × IsRootOf n 0 sector r)) (sym stays) lives.even;
        odd = inr (root, here);
        stands = inr here;
        greatest = λ other has. ⊎_elim
            (λ (first : IsRootOf n 0 (image 1) other). later other (inl (subst (λ (sector : List ℕ). IsRootOf n 0 sector other) stays first)))
            (λ (second : IsRootOf n 1 (image 2) other). same (image 2) other here.stands second.stands) has;
      }

  -- Where one root counts, the next one counts once its sector has it.
  pub next_lives : LiveRoot count image n root
  next_lives = ⊎_elim even_lives (λ (odd : root.generation % 2 ≡ 0 → ⊥). odd_lives (omega (arith, odd))) (cases_eq (root.generation % 2) 0)
