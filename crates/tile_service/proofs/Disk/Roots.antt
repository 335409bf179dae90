-- The root of what a disk holds is its live root.
use Rattle.std.proofs.Common.{◌≡◌, ◌⊎◌, inl, inr, ⊎_elim, ℕ, suc, ◌≤◌, ◌%◌, List, slice_index, sym, ◌∙◌, ap, subst, refl, arith}
use Rattle.std.proofs.lemmas.Bool.{cases_eq}
use Rattle.sector_disk.specs.Disk.{Image}
use Rattle.generations.specs.Disks.{LiveRoot, HasRoot}
use Rattle.generations.specs.Sectors.{root_mark, root_sector, IsRootSector, IsRootOf, IsNoRoot, zeros}
use Rattle.generations.specs.declared.root.Root.{Root}
use Rattle.generations.proofs.Laws.{one_root}
use Rattle.tile_service.specs.Stored.{Stored, Holds, HasEarlierRoot, root_of}

first_byte : (root : Root) → slice_index (root_sector root) 0 ≡ 86
unfolding root_mark root_sector
first_byte root = refl

apart : ◌≡◌ {A = ℕ} 0 86 → ⊥
apart is = omega (arith, is)

-- zeros have the form of no root
pub zeros_no_root : (sector : List ℕ) (root : Root) → IsNoRoot sector → IsRootSector sector root → ⊥
zeros_no_root sector root none is = apart (ap (λ (s : List ℕ). slice_index s 0) (sym none ∙ is.bytes) ∙ first_byte root)

-- a sector without a root has none
pub root_or_none : (n parity : ℕ) (sector : List ℕ) (root : Root) → IsNoRoot sector → IsRootOf n parity sector root → ⊥
root_or_none n parity sector root none is = zeros_no_root sector root none is.stands

-- a generation is even and the next one odd, or the other way round
pub parities : (generation : ℕ) → ((generation % 2 ≡ 0) × (suc generation % 2 ≡ 1)) ⊎ ((generation % 2 ≡ 1) × (suc generation % 2 ≡ 0))
parities generation = ⊎_elim
    (λ (even : generation % 2 ≡ 0). inl (even, omega (arith, even)))
    (λ (odd : generation % 2 ≡ 0 → ⊥). inr (omega (arith, odd), omega (arith, odd)))
    (cases_eq (generation % 2) 0)

module _ (n generation parity : ℕ) (sector : List ℕ) (is : suc generation % 2 ≡ parity) where
  -- the sector of an earlier root has a root or none
  sound : HasEarlierRoot n generation sector → (sector ≡ zeros) ⊎ ((root : Root) × IsRootOf n parity sector root)
  sound (inl none) = inl none
  sound (inr there) = inr (there.0, subst (λ (p : ℕ). IsRootOf n p sector there.0) is there.2)

  -- and no root in it is of this generation or a later one
  lower : HasEarlierRoot n generation sector → (root : Root) → IsRootOf n parity sector root → root.generation ≤ generation
  lower (inl none) root other = absurd (root_or_none n parity sector root none other)
  lower (inr there) root other =
      omega (arith, there.1, ap (λ (r : Root). r.generation) (one_root sector root there.0 other.stands there.2.stands))

module _ (count : ℕ) (image : Image) (n : ℕ) (stored : Stored) (holds : Holds count n stored image) where
  abbrev pub root : Root
  root = root_of stored

  even : stored.generation % 2 ≡ 0 → suc stored.generation % 2 ≡ 1 → LiveRoot count image n root
  even this next =
      let stands : IsRootOf n 0 (image 1) root =
      subst (λ (p : ℕ). IsRootOf n p (image 1) root) this ((holds.sectors 1).live (omega (arith, this))) in
      let other : HasEarlierRoot n stored.generation (image 2) = (holds.sectors 2).other (omega (arith, next)) in
      record {
        format = (holds.sectors 0).format refl;
        even = inr (root, stands);
        odd = sound n stored.generation 1 (image 2) next other;
        stands = inl stands;
        greatest = λ r has. greatest_even r stands other has;
      }
    where
      greatest_even : (r : Root) → IsRootOf n 0 (image 1) root → HasEarlierRoot n stored.generation (image 2) → HasRoot n image r
          → r.generation ≤ stored.generation
      greatest_even r stands other (inl is) = omega (arith, ap (λ (r : Root). r.generation) (one_root (image 1) r root is.stands stands.stands))
      greatest_even r stands other (inr is) = lower n stored.generation 1 (image 2) next other r is

  odd : stored.generation % 2 ≡ 1 → suc stored.generation % 2 ≡ 0 → LiveRoot count image n root
  odd this next =
      let stands : IsRootOf n 1 (image 2) root =
      subst (λ (p : ℕ). IsRootOf n p (image 2) root) this ((holds.sectors 2).live (omega (arith, this))) in
      let other : HasEarlierRoot n stored.generation (image 1) = (holds.sectors 1).other (omega (arith, next)) in
      record {
        format = (holds.sectors 0).format refl;
        even = sound n stored.generation 0 (image 1) next other;
        odd = inr (root, stands);
        stands = inr stands;
        greatest = λ r has. greatest_odd r stands other has;
      }
    where
      greatest_odd : (r : Root) → IsRootOf n 1 (image 2) root → HasEarlierRoot n stored.generation (image 1) → HasRoot n image r
          → r.generation ≤ stored.generation
      greatest_odd r stands other (inl is) = lower n stored.generation 0 (image 1) next other r is
      greatest_odd r stands other (inr is) = omega (arith, ap (λ (r : Root). r.generation) (one_root (image 2) r root is.stands stands.stands))

  -- its root counts
  pub lives : LiveRoot count image n root
  lives = either (parities stored.generation)
    where
      either : ((stored.generation % 2 ≡ 0) × (suc stored.generation % 2 ≡ 1)) ⊎ ((stored.generation % 2 ≡ 1) × (suc stored.generation % 2 ≡ 0))
          → LiveRoot count image n root
      either (inl is) = even is.0 is.1
      either (inr is) = odd is.0 is.1
