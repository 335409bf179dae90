-- A disk that was just formatted holds the empty map.
use Rattle.std.proofs.Common.{◌≡◌, ◌⊎◌, inl, inr, ⊎_elim, ℕ, zero, suc, Bool, true, false, if◌then◌else◌, ◌<◌, ◌≤◌, ◌+◌, ◌*◌, ◌%◌}
use Rattle.std.proofs.Common.{List, [], length, drop, take, refl, sym, ◌∙◌, ap, subst, arith, lit<, lit≤}
use Rattle.std.specs.List.Sorted.{IsStrictlySortedBy}
use Rattle.std.proofs.lemmas.List.Elements.{All-nil}
use Rattle.std.proofs.Common.{Result, Err, OnOk, ◌↔◌}
use Rattle.std.proofs.lemmas.Bool.{cases_lt}
use Rattle.std.proofs.lemmas.Result.{on_ok_weaker}
use Rattle.sector_disk.specs.Disk.{Image, History, MayLeave}
use Rattle.sector_disk.specs.Moments.{LeavesOnly}
use Rattle.sector_disk.proofs.History.{started, weaken}
use Rattle.sector_disk.specs.declared.disk.TheConstants.{SECTOR_BYTES}
use Rattle.sector_bytes.specs.Bytes.{sector_piece}
use Rattle.generations.specs.Areas.{IsSize, area_start}
use Rattle.generations.specs.Disks.{LiveRoot, IsFresh, HasRoot, HasNoMark, first_root}
use Rattle.generations.specs.declared.fault.StoreFault.{StoreFault}
use Rattle.generations.specs.declared.fault.StoreFault.TheVariants.{TooSmall, Damaged}
use Rattle.generations.specs.declared.fault.What.TheVariants.{Size}
use Rattle.generations.specs.declared.root.Root.{Root}
use Rattle.generations.specs.declared.sizes.TheConstants.{MIN_SECTORS, MAX_SECTORS, LAST_VERSION}
use Rattle.generations.specs.Sectors.{IsFormat, IsRootOf, IsVersion, version_from}
use Rattle.generations.proofs.Laws.{fresh_live, format_has_version}
use Rattle.edit_journal.specs.Records.{IsHeadOf}
use Rattle.edit_journal.proofs.Laws.{zeros_no_head}
use Rattle.feature_store.specs.Layers.{layers, is_tile}
use Rattle.feature_store.specs.Store.{IsMap, snapshot}
use Rattle.mvt_layer.specs.Tile.{LayerView}
use Rattle.tile_service.specs.Stored.{Stored, Holds, Keeps, HoldsAt, HasBytes, first_state, root_of}
use Rattle.area_content.specs.Tiles.{HasNoTile}
use Rattle.tile_service.proofs.Disk.Roots.{root_or_none}

empty_map : IsMap []
unfolding IsStrictlySortedBy snapshot
empty_map = record { ascending = tt; edits = All-nil _; short = lit< tt }

pub no_text : snapshot [] ≡ []
unfolding snapshot
no_text = refl

same_root : root_of first_state ≡ first_root
unfolding snapshot
same_root = refl

none_either_way : (b : Bool) (ls : List LayerView) → ls ≡ [] → (if b then ls else []) ≡ []
none_either_way true ls none = none
none_either_way false ls none = refl

pub no_tile : HasNoTile []
unfolding layers
no_tile z x y = none_either_way (is_tile z x y) _ refl

drop_none : (n : ℕ) → ◌≡◌ {A = List ℕ} (drop n []) []
drop_none zero = refl
drop_none (suc n) = refl

take_none : (n : ℕ) → ◌≡◌ {A = List ℕ} (take n []) []
take_none zero = refl
take_none (suc n) = refl

no_piece : (index : ℕ) → sector_piece [] index ≡ []
no_piece index = ap (take SECTOR_BYTES) (drop_none (SECTOR_BYTES * index)) ∙ take_none SECTOR_BYTES

pub no_bytes : (first at : ℕ) (sector : List ℕ) → HasBytes first [] at sector
no_bytes first at sector index is = subst (λ (piece : List ℕ). take (length piece) sector ≡ piece) (sym (no_piece index)) refl

even : 0 % 2 ≡ 0
even = omega arith

-- the state after a format in this version
abbrev pub first_in : (version : ℕ) → Stored
first_in version = record first_state { version = version }

module _ (count version n : ℕ) (image : Image) (is_version : IsVersion version) (size : IsSize n) (within : n ≤ count) (fresh : IsFresh version n image) where
  first_live : LiveRoot count image n first_root
  first_live = fresh_live count version n image is_version size within fresh

  stands : HasRoot n image first_root → IsRootOf n 0 (image 1) first_root
  stands (inl is) = is
  stands (inr is) = absurd (root_or_none n 1 (image 2) first_root (fresh.empty 2 (omega arith) (omega arith)) is)

  first_sector : (at : ℕ) → at ≡ 1 + 0 % 2 → at ≡ 1
  first_sector at is = omega (arith, is, even)

  version_there : version_from (image 0) ≡ version
  version_there = ap version_from fresh.format ∙ format_has_version version n is_version

  each : (at : ℕ) → HoldsAt count n (first_in version) at (image at)
  each at = record {
    format = λ is. subst (λ (a : ℕ). IsFormat count (image a) n) (sym is) first_live.format;
    version = λ is. subst (λ (a : ℕ). version_from (image a) ≡ version) (sym is) version_there;
    live = λ is. subst (λ (p : ℕ). IsRootOf n p (image at) (root_of first_state)) (sym even)
        (subst (λ (r : Root). IsRootOf n 0 (image at) r) (sym same_root)
        (subst (λ (a : ℕ). IsRootOf n 0 (image a) first_root) (sym (first_sector at is)) (stands first_live.stands)));
    other = λ is. inl (fresh.empty at (omega (arith, is)) (omega (arith, is)));
    snapshot_bytes = subst (λ (bytes : List ℕ). HasBytes (area_start n 0) bytes at (image at)) (sym no_text) (no_bytes (area_start n 0) at (image at));
    archive_bytes = no_bytes _ at (image at);
  }

  -- an image of a disk that was just formatted in a version holds the empty map at generation 0
  pub fresh_version_holds : Holds count n (first_in version) image
  fresh_version_holds = record {
    sectors = each;
    journal = record {
      records = record { lengths = tt; room = omega arith; numbers = lit≤ tt; stand = λ at. tt };
      last = λ at other later inside is_record le head. zeros_no_head other later
          (subst (λ (s : List ℕ). IsHeadOf other later s) (fresh.empty at (omega (arith, inside.0)) inside.1) head);
    };
    is_map = empty_map;
    are_edits = All-nil _;
    is_archive = inl (no_tile, refl);
  }

pub fresh_holds : (count n : ℕ) (image : Image) → IsSize n → n ≤ count → IsFresh LAST_VERSION n image → Holds count n first_state image
fresh_holds count n image size within fresh = fresh_version_holds count LAST_VERSION n image (inr refl) size within fresh

-- ---- formatting

fresh_or : (n : ℕ) (old : History) → IsSize n → (image : Image) → MayLeave old image ⊎ HasNoMark image ⊎ IsFresh LAST_VERSION n image
    → MayLeave old image ⊎ HasNoMark image ⊎ Holds n n first_state image
fresh_or n old size image (inl was) = inl was
fresh_or n old size image (inr (inl none)) = inr (inl none)
fresh_or n old size image (inr (inr fresh)) = inr (inr (fresh_holds n n image size (omega arith) fresh))

-- a count of sectors is too small, too large, or a size
size_or : (n : ℕ) → (n < MIN_SECTORS) ⊎ (MAX_SECTORS < n) ⊎ IsSize n
size_or n = ⊎_elim
    (λ (small : n < MIN_SECTORS). inl small)
    (λ (least : MIN_SECTORS ≤ n). ⊎_elim
    (λ (large : MAX_SECTORS < n). inr (inl large))
    (λ (most : n ≤ MAX_SECTORS). inr (inr (least, most)))
    (cases_lt MAX_SECTORS n))
    (cases_lt n MIN_SECTORS)

-- what formatting leaves at each moment, in terms of what a disk holds
pub formatting_leaves : (n : ℕ) (old new : History) → ((IsSize n → ⊥) → new ≡ old)
    → LeavesOnly old new (λ image. MayLeave old image ⊎ HasNoMark image ⊎ IsFresh LAST_VERSION n image)
    → LeavesOnly old new (λ image. MayLeave old image ⊎ HasNoMark image ⊎ Holds n n first_state image)
formatting_leaves n old new untouched leaves = by (size_or n)
  where
    same : (IsSize n → ⊥) → LeavesOnly old new (λ image. MayLeave old image ⊎ HasNoMark image ⊎ Holds n n first_state image)
    same none = subst (λ (h : History). LeavesOnly old h (λ image. MayLeave old image ⊎ HasNoMark image ⊎ Holds n n first_state image))
        (sym (untouched none)) (started old _ (λ image may. inl may))

    by : (n < MIN_SECTORS) ⊎ (MAX_SECTORS < n) ⊎ IsSize n
        → LeavesOnly old new (λ image. MayLeave old image ⊎ HasNoMark image ⊎ Holds n n first_state image)
    by (inl small) = same (λ size. omega (arith, small, size.0))
    by (inr (inl large)) = same (λ size. omega (arith, large, size.1))
    by (inr (inr size)) = weaken old new _ _ leaves (fresh_or n old size)

-- and what it leaves where it is done
pub formatted_keeps : (n : ℕ) (new : History) (result : Result (Unit {0}) StoreFault) → (result ≡ Err TooSmall) ↔ (n < MIN_SECTORS)
    → (result ≡ Err (Damaged Size)) ↔ (MAX_SECTORS < n) → OnOk result ((image : Image) → MayLeave new image → IsFresh LAST_VERSION n image)
    → OnOk result (Keeps n n first_state new)
formatted_keeps n new result small large fresh = by (size_or n)
  where
    by : (n < MIN_SECTORS) ⊎ (MAX_SECTORS < n) ⊎ IsSize n → OnOk result (Keeps n n first_state new)
    by (inl is) = subst (λ r. OnOk r (Keeps n n first_state new)) (sym (small.1 is)) tt
    by (inr (inl is)) = subst (λ r. OnOk r (Keeps n n first_state new)) (sym (large.1 is)) tt
    by (inr (inr size)) = on_ok_weaker result (λ all image may. fresh_holds n n image size (omega arith) (all image may)) fresh
