-- A disk is made one of the last version once everything that was written before outlives a crash.
use Rattle.std.proofs.Common.{◌≡◌, ◌⊎◌, inl, inr, ⊎_elim, ℕ, List, refl, sym, ap, subst, ◌∙◌, arith}
use Rattle.sector_disk.specs.Disk.{History, Image, seen, MayHold, MayLeave}
use Rattle.sector_disk.specs.Disk.History.{wrote, synced}
use Rattle.sector_disk.specs.Moments.{LeavesOnly}
use Rattle.sector_disk.proofs.History.{started, seen_may, seen_same, seen_other, sync_leaves, then_leaves, weaken}
use Rattle.generations.specs.Disks.{LiveRoot}
use Rattle.generations.specs.Sectors.{version_from, sectors_from, format_sector, IsFormat, IsNoRoot, IsRootOf}
use Rattle.generations.specs.Upgrades.{IsUpgraded, Upgrades}
use Rattle.generations.specs.Written.{IsOldOr}
use Rattle.generations.specs.declared.root.Root.{Root}
use Rattle.generations.specs.declared.sizes.TheConstants.{LAST_VERSION}
use Rattle.generations.proofs.Formats.{is_read, has_version}

module _ (count : ℕ) (old : History) where
  -- what a sector has after a sync it might have had before
  stood : (mid : History) → (mid ≡ old) ⊎ (mid ≡ synced old) → (at : ℕ) (left : List ℕ) → MayHold mid at left → MayHold old at left
  stood mid (inl same) at left may = subst (λ (h : History). MayHold h at left) same may
  stood mid (inr is) at left may =
      let there : left ≡ seen old at = subst (λ (h : History). MayHold h at left) is may in
      subst (MayHold old at) (sym there) (seen_may old at)

  -- the first sync leaves what there was
  pub sync_upgrades : (mid : History) → (mid ≡ old) ⊎ (mid ≡ synced old) → LeavesOnly old mid (Upgrades count old)
  sync_upgrades mid is = sync_leaves old old mid (Upgrades count old) is (started old (Upgrades count old) (λ image may. inl may))
      (λ image may. inl (λ at. stood mid is at (image at) (may at)))

  module _ (mid : History) (mid_is : mid ≡ synced old) (n : ℕ) (format : IsFormat count (seen old 0) n) where
    count_there : n ≡ sectors_from (seen old 0)
    count_there = is_read (seen old 0) n (format.stands, omega (arith, format.size.1))

    was_there : IsFormat count (seen old 0) (sectors_from (seen old 0))
    was_there = subst (IsFormat count (seen old 0)) count_there format

    -- a disk of the last version
    pub upgraded_already : version_from (seen old 0) ≡ LAST_VERSION → (image : Image) → MayLeave mid image → IsUpgraded count (seen old) image
    upgraded_already same image may =
        let reads : (at : ℕ) → image at ≡ seen old at = λ at. subst (λ (h : History). MayHold h at (image at)) mid_is (may at) in
        record {
          was = was_there;
          format = reads 0 ∙ format.stands.1 ∙ ap (λ v. format_sector v n) same ∙ ap (format_sector LAST_VERSION) count_there;
          others = λ at apart. reads at;
        }

    -- the format's sector is written
    module _ (bytes : List ℕ) (bytes_are : bytes ≡ format_sector LAST_VERSION n) where
      bytes_there : bytes ≡ format_sector LAST_VERSION (sectors_from (seen old 0))
      bytes_there = bytes_are ∙ ap (format_sector LAST_VERSION) count_there

      in_sector : (image : Image) → ((at : ℕ) → IsOldOr mid 0 bytes at (image at)) → (at : ℕ)
          → (image at ≡ seen old at) ⊎ ((at ≡ 0) × (image at ≡ bytes))
      in_sector image fits at = subst (λ (h : History). MayHold h at (image at) ⊎ ((at ≡ 0) × (image at ≡ bytes))) mid_is (fits at)

      upgrade_image : (image : Image) → ((at : ℕ) → IsOldOr mid 0 bytes at (image at)) → Upgrades count old image
      upgrade_image image fits = ⊎_elim
          (λ (same : image 0 ≡ seen old 0). inl (λ at. ⊎_elim
          (λ (is : image at ≡ seen old at). subst (MayHold old at) (sym is) (seen_may old at))
          (λ (w : (at ≡ 0) × (image at ≡ bytes)).
          subst (λ (k : ℕ). MayHold old k (image k)) (sym w.0) (subst (MayHold old 0) (sym same) (seen_may old 0)))
          (in_sector image fits at)))
          (λ (new : (0 ≡ 0) × (image 0 ≡ bytes)). inr (record {
            was = was_there;
            format = new.1 ∙ bytes_there;
            others = λ at apart. ⊎_elim (λ (is : image at ≡ seen old at). is)
                (λ (w : (at ≡ 0) × (image at ≡ bytes)). absurd (apart w.0)) (in_sector image fits at);
          }))
          (in_sector image fits 0)

      pub write_upgrades : (new : History) → LeavesOnly mid new (λ image. (at : ℕ) → IsOldOr mid 0 bytes at (image at))
          → LeavesOnly old new (Upgrades count old)
      write_upgrades new leaves = then_leaves old mid new (Upgrades count old) (sync_upgrades mid (inr mid_is))
          (weaken mid new _ (Upgrades count old) leaves upgrade_image)

      pub upgraded_now : (new : History) → new ≡ synced (wrote 0 bytes mid) → (image : Image) → MayLeave new image → IsUpgraded count (seen old) image
      upgraded_now new is image may =
          let reads : (at : ℕ) → image at ≡ seen (wrote 0 bytes mid) at = λ at. subst (λ (h : History). MayHold h at (image at)) is (may at) in
          record {
            was = was_there;
            format = reads 0 ∙ seen_same 0 bytes mid 0 refl ∙ bytes_there;
            others = λ at apart. reads at ∙ seen_other 0 bytes mid at apart ∙ ap (λ (h : History). seen h at) mid_is;
          }

-- ---- laws, for the crates above

module _ (count : ℕ) (before image : Image) (is : IsUpgraded count before image) where
  -- its version is the last one
  pub upgraded_version : version_from (image 0) ≡ LAST_VERSION
  upgraded_version = ap version_from is.format ∙ has_version LAST_VERSION (sectors_from (before 0)) (inr refl)

  upgraded_format : IsFormat count (image 0) (sectors_from (before 0))
  upgraded_format = record {
    stands = (inr upgraded_version, is.format ∙ ap (λ v. format_sector v (sectors_from (before 0))) (sym upgraded_version));
    size = is.was.size;
    within = is.was.within;
  }

  -- and its live root is the one that was
  pub upgraded_live : (n : ℕ) (root : Root) → LiveRoot count before n root → LiveRoot count image n root
  upgraded_live n root live =
      let same : sectors_from (before 0) ≡ n = sym (is_read (before 0) n (live.format.stands, omega (arith, live.format.size.1))) in
      let first : before 1 ≡ image 1 = sym (is.others 1 (λ e. omega (arith, e))) in
      let second : before 2 ≡ image 2 = sym (is.others 2 (λ e. omega (arith, e))) in
      record {
        format = subst (IsFormat count (image 0)) same upgraded_format;
        even = subst (λ (sector : List ℕ). IsNoRoot sector ⊎ ((r : Root) × IsRootOf n 0 sector r)) first live.even;
        odd = subst (λ (sector : List ℕ). IsNoRoot sector ⊎ ((r : Root) × IsRootOf n 1 sector r)) second live.odd;
        stands = ⊎_elim
            (λ (here : IsRootOf n 0 (before 1) root). inl (subst (λ (sector : List ℕ). IsRootOf n 0 sector root) first here))
            (λ (here : IsRootOf n 1 (before 2) root). inr (subst (λ (sector : List ℕ). IsRootOf n 1 sector root) second here)) live.stands;
        greatest = λ other has. live.greatest other (⊎_elim
            (λ (here : IsRootOf n 0 (image 1) other). inl (subst (λ (sector : List ℕ). IsRootOf n 0 sector other) (sym first) here))
            (λ (here : IsRootOf n 1 (image 2) other). inr (subst (λ (sector : List ℕ). IsRootOf n 1 sector other) (sym second) here)) has);
      }
