-- The archive of the live root is the one that a disk holds.
use Rattle.std.proofs.Common.{◌≡◌, ◌⊎◌, inl, inr, ℕ, ◌+◌, List, refl, sym, ◌∙◌, subst}
use Rattle.sector_disk.specs.Disk.{Image}
use Rattle.sector_bytes.specs.Bytes.{StandsIn}
use Rattle.sector_bytes.specs.Source.{AreItsBytes}
use Rattle.generations.specs.Areas.{archive_start}
use Rattle.generations.specs.Disks.{LiveRoot, IsFaultOf}
use Rattle.generations.specs.declared.fault.StoreFault.{StoreFault}
use Rattle.generations.specs.declared.fault.StoreFault.TheVariants.{Device}
use Rattle.generations.specs.declared.root.Root.{Root}
use Rattle.generations.proofs.Laws.{one_live, live_no_fault}
use Rattle.tile_service.specs.Stored.{Stored, Holds, root_of}
use Rattle.tile_service.specs.Tiles.{archive_place}
use Rattle.tile_service.proofs.Disk.OneState.{lives}
use Rattle.published_tiles.specs.declared.place.ArchivePlace.{ArchivePlace}

-- the bytes of the archive at a place
abbrev pub HasArchive : List ℕ → Image → ArchivePlace → Type 0
HasArchive archive image place = AreItsBytes place.first place.len archive image

-- the place that a root names on a disk of n sectors
abbrev pub place_of : ℕ → Root → ArchivePlace
place_of n root = archive_place n root.generation root.snapshot_len root.archive_len

-- a place with these sectors
pub at_place : (n : ℕ) (root : Root) (start : ℕ) → start ≡ archive_start n root.generation root.snapshot_len
    → ◌≡◌ {A = ArchivePlace} (record { generation = root.generation; first = start; len = root.archive_len }) (place_of n root)
at_place n root start is = λ i. record { generation = root.generation; first = is i; len = root.archive_len }

module _ (count : ℕ) (image : Image) (n : ℕ) (stored : Stored) (holds : Holds count n stored image) where
  stands : StandsIn (place_of n (root_of stored)).first stored.archive image
  stands index = (holds.sectors ((place_of n (root_of stored)).first + index)).archive_bytes index refl

  -- it is there
  pub archive_there : (m : ℕ) (root : Root) (place : ArchivePlace) → LiveRoot count image m root → place ≡ place_of m root
      → HasArchive stored.archive image place
  archive_there m root place live is =
      let same = one_live count image n m (root_of stored) root (lives count image n stored holds) live in
      subst (HasArchive stored.archive image) ((λ i. place_of (same.0 i) (same.1 i)) ∙ sym is) (record { length_is = refl; stands = stands })

  -- and the disk has no fault
  pub only_device : (fault : StoreFault) → (fault ≡ Device) ⊎ IsFaultOf count image fault → fault ≡ Device
  only_device fault (inl device) = device
  only_device fault (inr is) = absurd (live_no_fault count image n (root_of stored) fault (lives count image n stored holds) is)
