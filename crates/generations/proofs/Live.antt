-- The root that counts, by what the two sectors of roots have.
use Rattle.std.proofs.Common.{◌≡◌, inl, inr, ⊎_elim, ℕ, List, Option, Some, None, slice_index, refl, sym, ap, subst, arith, ◌∙◌}
use Rattle.sector_disk.specs.Disk.{Image}
use Rattle.generations.specs.Disks.{IsSound, LiveRoot, IsFaultOf}
use Rattle.generations.specs.Sectors.{root_mark, root_sector, zeros, IsFormat, IsRootOf, IsBad, IsSlot, IsNewest}
use Rattle.generations.specs.declared.root.Root.{Root}
use Rattle.generations.specs.declared.fault.StoreFault.TheVariants.{Damaged}
use Rattle.generations.specs.declared.fault.What.TheVariants.{RootSector}
use Rattle.generations.proofs.Roots.{is_read}

first_byte : (root : Root) → slice_index (root_sector root) 0 ≡ 86
unfolding root_mark root_sector
first_byte root = refl

-- the first byte of zeros isn't that of a mark
pub zero_apart : ◌≡◌ {A = ℕ} 0 86 → ⊥
zero_apart is = omega (arith, is)

-- a sector of zeros is no root
pub zeros_no_root : (root : Root) → zeros ≡ root_sector root → ⊥
zeros_no_root root is = zero_apart (ap (λ (s : List ℕ). slice_index s 0) is ∙ first_byte root)

-- what a slot is said to have makes its sector sound
pub sound : (n parity : ℕ) (image : Image) (at : ℕ) (slot : Option Root) → IsSlot n parity (image at) slot → IsSound n parity image at
sound n parity image at None is = inl is
sound n parity image at (Some root) is = inr (root, is)

-- a slot has the root that its sector has
pub has_it : (n parity : ℕ) (sector : List ℕ) (slot : Option Root) (root : Root) → IsSlot n parity sector slot → IsRootOf n parity sector root
    → slot ≡ Some root
has_it n parity sector None root slot is = absurd (zeros_no_root root (sym slot ∙ is.stands.bytes))
has_it n parity sector (Some other) root slot is = ap Some (is_read sector other slot.stands ∙ sym (is_read sector root is.stands))

-- and its sector has the root that it has
pub it_has : (n parity : ℕ) (sector : List ℕ) (slot : Option Root) (root : Root) → IsSlot n parity sector slot → slot ≡ Some root
    → IsRootOf n parity sector root
it_has n parity sector None root slot is = absurd (let apart : None ≡ Some root = is in cc)
it_has n parity sector (Some other) root slot is = let same : other ≡ root = cc in subst (λ (r : Root). IsRootOf n parity sector r) same slot

module _ (count : ℕ) (image : Image) (n : ℕ) (format : IsFormat count (image 0) n) where
  module _ (even odd : Option Root) (even_is : IsSlot n 0 (image 1) even) (odd_is : IsSlot n 1 (image 2) odd) where
    -- the root of greater generation counts
    pub newest_lives : (root : Root) → IsNewest even odd (Some root) → LiveRoot count image n root
    newest_lives root newest = record {
      format = format;
      even = sound n 0 image 1 even even_is;
      odd = sound n 1 image 2 odd odd_is;
      stands = ⊎_elim (λ (is : even ≡ Some root). inl (it_has n 0 (image 1) even root even_is is))
          (λ (is : odd ≡ Some root). inr (it_has n 1 (image 2) odd root odd_is is)) newest.0;
      greatest = λ other has. newest.1 other (⊎_elim (λ (is : IsRootOf n 0 (image 1) other). inl (has_it n 0 (image 1) even other even_is is))
          (λ (is : IsRootOf n 1 (image 2) other). inr (has_it n 1 (image 2) odd other odd_is is)) has);
    }

  -- without a root in either sector that is the fault
  pub none_lives : (even odd : Option Root) → IsSlot n 0 (image 1) even → IsSlot n 1 (image 2) odd → (even ≡ None) × (odd ≡ None)
      → IsFaultOf count image (Damaged RootSector)
  none_lives even odd even_is odd_is none = (
    n,
    format,
    inr (inr (
      subst (λ (slot : Option Root). IsSlot n 0 (image 1) slot) none.0 even_is,
      subst (λ (slot : Option Root). IsSlot n 1 (image 2) slot) none.1 odd_is,
    )),
  )

  -- and so is a bad sector
  pub bad_even : IsBad n 0 (image 1) → IsFaultOf count image (Damaged RootSector)
  bad_even bad = (n, format, inl bad)

  pub bad_odd : IsBad n 1 (image 2) → IsFaultOf count image (Damaged RootSector)
  bad_odd bad = (n, format, inr (inl bad))
