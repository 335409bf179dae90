-- Images that hold the empty map, and images that hold nothing: a disk that was just formatted, with one sector changed.
use Rattle.std.proofs.Common.{◌≡◌, ◌⊎◌, inl, inr, ⊎_elim, ℕ, suc, ◌<◌, ◌≤◌, ◌+◌, ◌%◌, ◌==◌, if◌then◌else◌, ◌∙◌, List, [], ◌∷◌, length, map}
use Rattle.std.proofs.Common.{refl, sym, ap, subst, arith, lit<, lit≤}
use Rattle.std.specs.List.{All}
use Rattle.std.proofs.lemmas.Bool.{cases_eq}
use Rattle.std.proofs.lemmas.Bool.Decides.{nat_tests}
use Rattle.std.proofs.lemmas.List.Elements.{All-head}
use Rattle.std.proofs.lemmas.Nat.{mod_below}
use Rattle.sector_disk.specs.Disk.{Image, seen}
use Rattle.sector_disk.specs.Disk.History.{begun, wrote}
use Rattle.sector_disk.proofs.History.{seen_same, seen_other}
use Rattle.generations.specs.Areas.{IsSize, journal_sectors, area_start}
use Rattle.generations.specs.Disks.{HasRoot, IsFresh, LiveRoot, first_root}
use Rattle.generations.specs.Sectors.{format_sector, root_sector, zeros, version_from, AreNumbers, IsFormat, IsNoRoot, IsRootOf, IsRootSector, IsVersion}
use Rattle.generations.specs.declared.root.Root.{Root}
use Rattle.generations.proofs.Laws.{fresh_image, fresh_live, format_has_version, one_live, one_root}
use Rattle.edit_journal.specs.Appends.{start_of}
use Rattle.edit_journal.specs.Records.{RecordData, IsRecordVersion, parts_of, record_sector, IsHeadOf}
use Rattle.edit_journal.specs.Ring.{RecordStart, sector_at, IsInRing, HoldsOnly}
use Rattle.edit_journal.proofs.Laws.{written_is_part, first_is_head, first_stands, one_number, zeros_no_head}
use Rattle.edit_text.specs.Recorded.{RecordedEdit}
use Rattle.tile_service.specs.Stored.{Stored, Holds, HoldsAt, HasBytes, HasEarlierRoot, CanRecord}
use Rattle.tile_service.specs.Stored.{root_of, record_for, stored_records, journal_ring, journal_start}
use Rattle.tile_service.proofs.Disk.Formatted.{first_in, fresh_version_holds, no_bytes, no_text}
use Rattle.tile_service.proofs.Disk.OneState.{one_state}
use Rattle.tile_service.proofs.Disk.Roots.{lives, parities, zeros_no_root}

-- a disk of n sectors that was just formatted in a version
abbrev pub formatted_image : (disk n : ℕ) → Image
formatted_image disk n at = if at == 0 then format_sector disk n else fresh_image n at

is_fresh : (disk n : ℕ) → IsFresh disk n (formatted_image disk n)
is_fresh disk n = record { format = refl; root = refl; empty = λ at le lt. grind (arith, nat_tests) }

-- It holds the empty map.
pub formatted_holds : (disk : ℕ) → IsVersion disk → Holds 64 64 (first_in disk) (formatted_image disk 64)
formatted_holds disk known = fresh_version_holds 64 disk 64 (formatted_image disk 64) known (lit≤ tt, lit≤ tt) (lit≤ tt) (is_fresh disk 64)

-- the same with other bytes in one sector
abbrev pub with_sector : (disk n at : ℕ) → List ℕ → Image
with_sector disk n at sector = seen (wrote at sector (begun (formatted_image disk n)))

-- ---- a sector of the journal

module _ (disk count n : ℕ) (known : IsVersion disk) (size : IsSize n) (within : n ≤ count)
    (at : ℕ) (inside : IsInRing (journal_ring n) at) (sector : List ℕ) where
  abbrev image : Image
  image = with_sector disk n at sector

  here : image at ≡ sector
  here = seen_same at sector (begun (formatted_image disk n)) at refl

  elsewhere : (place : ℕ) → (place ≡ at → ⊥) → image place ≡ formatted_image disk n place
  elsewhere place apart = seen_other at sector (begun (formatted_image disk n)) place apart

  before : (place : ℕ) → place < 3 → image place ≡ formatted_image disk n place
  before place low = elsewhere place (λ is. omega (arith, low, is, inside.0))

  -- its other sectors are empty
  empty : (place : ℕ) → IsInRing (journal_ring n) place → (place ≡ at → ⊥) → image place ≡ zeros
  empty place is apart = elsewhere place apart ∙ (is_fresh disk n).empty place (omega (arith, is.0)) is.1

  first : LiveRoot count (formatted_image disk n) n first_root
  first = fresh_live count disk n (formatted_image disk n) known size within (is_fresh disk n)

  there : (root : Root) → HasRoot n (formatted_image disk n) root → HasRoot n image root
  there root (inl is) = inl (subst (λ (s : List ℕ). IsRootOf n 0 s root) (sym (before 1 (lit< tt))) is)
  there root (inr is) = inr (subst (λ (s : List ℕ). IsRootOf n 1 s root) (sym (before 2 (lit< tt))) is)

  back : (root : Root) → HasRoot n image root → HasRoot n (formatted_image disk n) root
  back root (inl is) = inl (subst (λ (s : List ℕ). IsRootOf n 0 s root) (before 1 (lit< tt)) is)
  back root (inr is) = inr (subst (λ (s : List ℕ). IsRootOf n 1 s root) (before 2 (lit< tt)) is)

  -- the first root counts
  live : LiveRoot count image n first_root
  live = record {
    format = subst (λ (s : List ℕ). IsFormat count s n) (sym (before 0 (lit< tt))) first.format;
    even = subst (λ (s : List ℕ). IsNoRoot s ⊎ ((root : Root) × IsRootOf n 0 s root)) (sym (before 1 (lit< tt))) first.even;
    odd = subst (λ (s : List ℕ). IsNoRoot s ⊎ ((root : Root) × IsRootOf n 1 s root)) (sym (before 2 (lit< tt))) first.odd;
    stands = there first_root first.stands;
    greatest = λ other has. first.greatest other (back other has);
  }

  -- so the edits since begin with number 1 in place 0,
  begins : (m : ℕ) (stored : Stored) → Holds count m stored image
      → HoldsOnly (journal_ring n) (start_of 0 0) (stored_records stored) image
  begins m stored holds =
      let same = one_live count image n m first_root (root_of stored) live (lives count image m stored holds) in
      let start : start_of 0 0 ≡ journal_start stored = ap (λ (r : Root). start_of r.journal_at r.edits) same.1 in
      subst (λ (s : RecordStart). HoldsOnly (journal_ring n) s (stored_records stored) image) (sym start)
      (subst (λ (k : ℕ). HoldsOnly (journal_ring k) (journal_start stored) (stored_records stored) image) (sym same.0) holds.journal)

  -- and the version is that of the format
  in_version : (m : ℕ) (stored : Stored) → Holds count m stored image → stored.version ≡ disk
  in_version m stored holds =
      sym ((holds.sectors 0).version refl) ∙ ap version_from (before 0 (lit< tt)) ∙ format_has_version disk n known

  -- where the journal has a record, its head is this sector
  first_head : (r : RecordData) (records : List RecordData) → HoldsOnly (journal_ring n) (start_of 0 0) (r ∷ records) image → IsHeadOf r.version 1 sector
  first_head r records holds =
      let some : 1 ≤ parts_of (length r.text) = omega (arith, holds.records.lengths.0.1) in
      let place : ℕ = sector_at (journal_ring n) (0 + 0) in
      let is_first : IsHeadOf r.version 1 (image place) =
      first_is_head r.version 1 r.text (image place) (lit< tt)
      (first_stands (journal_ring n) image (start_of 0 0) r records holds 0 (omega (arith, some))) in
      let in_ring : IsInRing (journal_ring n) place =
      (omega arith, omega (arith, mod_below (0 + 0) (journal_sectors n) (omega (arith, some, holds.records.room)))) in
      ⊎_elim
      (λ (same : place ≡ at). subst (λ (s : List ℕ). IsHeadOf r.version 1 s) (ap (λ (p : ℕ). image p) same ∙ here) is_first)
      (λ (apart : place ≡ at → ⊥).
      absurd (zeros_no_head r.version 1 (subst (λ (s : List ℕ). IsHeadOf r.version 1 s) (empty place in_ring apart) is_first)))
      (cases_eq place at)

  module _ (version number : ℕ) (is_record : IsRecordVersion version) (head : IsHeadOf version number sector) where
    no_first : 1 ≤ number → HoldsOnly (journal_ring n) (start_of 0 0) [] image → ⊥
    no_first some holds =
        holds.last at version number inside is_record (omega (arith, some)) (subst (λ (s : List ℕ). IsHeadOf version number s) (sym here) head)

    no_records : 1 < number → (records : List RecordData) → HoldsOnly (journal_ring n) (start_of 0 0) records image → ⊥
    no_records later [] holds = no_first (omega (arith, later)) holds
    no_records later (r ∷ records) holds =
        let one : 1 ≡ number = one_number r.version version 1 number sector (first_head r records holds) head in
        omega (arith, one, later)

    -- With the head of a later number than 1 alone it holds nothing.
    pub later_head_holds_nothing : 1 < number → (m : ℕ) (stored : Stored) → Holds count m stored image → ⊥
    later_head_holds_nothing later m stored holds = no_records later (stored_records stored) (begins m stored holds)

    no_edits : 1 ≤ number → (most : ℕ) → most < version → (edits : List RecordedEdit) → All (CanRecord most) edits
        → HoldsOnly (journal_ring n) (start_of 0 0) (map record_for edits) image → ⊥
    no_edits some most later [] are holds = no_first some holds
    no_edits some most later (e ∷ edits) are holds =
        let first_is : IsHeadOf e.version 1 sector = first_head (record_for e) (map record_for edits) holds in
        omega (arith, later, (All-head (CanRecord most) e edits are).version_is, sym first_is.version_is ∙ head.version_is)

    -- With a head of a later version than its own it holds nothing, whatever the head's number.
    pub later_version_holds_nothing : 1 ≤ number → disk < version → (m : ℕ) (stored : Stored) → Holds count m stored image → ⊥
    later_version_holds_nothing some later m stored holds =
        no_edits some stored.version (omega (arith, later, in_version m stored holds)) stored.since holds.are_edits (begins m stored holds)

  module _ (none : (version number : ℕ) → IsRecordVersion version → IsHeadOf version number sector → ⊥) where
    formatted : Holds count n (first_in disk) (formatted_image disk n)
    formatted = fresh_version_holds count disk n (formatted_image disk n) known size within (is_fresh disk n)

    each : (place : ℕ) → HoldsAt count n (first_in disk) place (image place)
    each place = ⊎_elim
        (λ (same : place ≡ at). record {
          format = λ is. absurd (omega (arith, is, same, inside.0));
          version = λ is. absurd (omega (arith, is, same, inside.0));
          live = λ is. absurd (omega (arith, is, same, inside.0));
          other = λ is. absurd (omega (arith, is, same, inside.0));
          snapshot_bytes = subst (λ (bytes : List ℕ). HasBytes (area_start n 0) bytes place (image place)) (sym no_text)
              (no_bytes (area_start n 0) place (image place));
          archive_bytes = no_bytes _ place (image place);
        })
        (λ (apart : place ≡ at → ⊥). subst (λ (s : List ℕ). HoldsAt count n (first_in disk) place s) (sym (elsewhere place apart)) (formatted.sectors place))
        (cases_eq place at)

    no_head : (place version number : ℕ) → IsInRing (journal_ring n) place → IsRecordVersion version → IsHeadOf version number (image place) → ⊥
    no_head place version number is is_record head = ⊎_elim
        (λ (same : place ≡ at).
        none version number is_record (subst (λ (s : List ℕ). IsHeadOf version number s) (ap (λ (p : ℕ). image p) same ∙ here) head))
        (λ (apart : place ≡ at → ⊥).
        zeros_no_head version number (subst (λ (s : List ℕ). IsHeadOf version number s) (empty place is apart) head))
        (cases_eq place at)

    -- With bytes that are no head, as those of another version, it holds the empty map,
    pub no_head_holds_empty : Holds count n (first_in disk) image
    no_head_holds_empty = record {
      sectors = each;
      journal = record {
        records = record { lengths = tt; room = omega arith; numbers = lit≤ tt; stand = λ place. tt };
        last = λ place version number is is_record le head. no_head place version number is is_record head;
      };
      is_map = formatted.is_map;
      are_edits = formatted.are_edits;
      is_archive = formatted.is_archive;
    }

    -- and nothing else.
    pub no_head_holds_no_edit : (m : ℕ) (stored : Stored) → Holds count m stored image → stored ≡ first_in disk
    no_head_holds_no_edit m stored holds = sym (one_state count image n m (first_in disk) stored no_head_holds_empty holds).1

-- ---- the sectors of the roots

-- With the root of an odd generation in the sector of even ones an image holds nothing, whatever it has elsewhere.
pub misplaced_root_holds_nothing : (count m : ℕ) (image : Image) (root : Root) (stored : Stored) → IsRootSector (image 1) root
    → root.generation % 2 ≡ 1 → Holds count m stored image → ⊥
misplaced_root_holds_nothing count m image root stored is odd holds = ⊎_elim
    (λ (even : (stored.generation % 2 ≡ 0) × (suc stored.generation % 2 ≡ 1)). live_there even.0)
    (λ (other : (stored.generation % 2 ≡ 1) × (suc stored.generation % 2 ≡ 0)).
    earlier_there other.1 ((holds.sectors 1).other (omega (arith, other.1))))
    (parities stored.generation)
  where
    live_there : stored.generation % 2 ≡ 0 → ⊥
    live_there even =
        let stands = (holds.sectors 1).live (omega (arith, even)) in
        omega (arith, ap (λ (r : Root). r.generation) (one_root (image 1) root (root_of stored) is stands.stands), odd, even)

    earlier_there : suc stored.generation % 2 ≡ 0 → HasEarlierRoot m stored.generation (image 1) → ⊥
    earlier_there even (inl none) = zeros_no_root (image 1) root none is
    earlier_there even (inr there) =
        omega (arith, ap (λ (r : Root). r.generation) (one_root (image 1) root there.0 is there.2.stands), there.2.parity_is, odd, even)

-- ---- examples

-- a disk of 64 sectors, whose journal begins in sector 3
first_place : IsInRing (journal_ring 64) 3
first_place = (lit≤ tt, lit< tt)

-- the head of number 2 alone
pub second_record_alone : (disk version : ℕ) (text : List ℕ) → IsVersion disk → IsRecordVersion version → (m : ℕ) (stored : Stored)
    → Holds 64 m stored (with_sector disk 64 3 (record_sector version 2 text 0)) → ⊥
second_record_alone disk version text known is_record m stored holds =
    later_head_holds_nothing disk 64 64 known (lit≤ tt, lit≤ tt) (lit≤ tt) 3 first_place (record_sector version 2 text 0) version 2 is_record
    (first_is_head version 2 text (record_sector version 2 text 0) (lit< tt) (written_is_part version 2 text 0)) (lit< tt) m stored holds

-- the head of number 1 of version 2, on a disk of version 1
pub second_version_on_first : (text : List ℕ) (m : ℕ) (stored : Stored) → Holds 64 m stored (with_sector 1 64 3 (record_sector 2 1 text 0)) → ⊥
second_version_on_first text m stored holds =
    later_version_holds_nothing 1 64 64 (inl refl) (lit≤ tt, lit≤ tt) (lit≤ tt) 3 first_place (record_sector 2 1 text 0) 2 1 (lit≤ tt, lit≤ tt)
    (first_is_head 2 1 text (record_sector 2 1 text 0) (lit< tt) (written_is_part 2 1 text 0)) (lit≤ tt) (lit< tt) m stored holds

-- the head of number 1 with a version that no record has
pub other_version : (disk version : ℕ) (text : List ℕ) → IsVersion disk → (IsRecordVersion version → ⊥) → (m : ℕ) (stored : Stored)
    → Holds 64 m stored (with_sector disk 64 3 (record_sector version 1 text 0)) → stored ≡ first_in disk
other_version disk version text known other m stored holds =
    no_head_holds_no_edit disk 64 64 known (lit≤ tt, lit≤ tt) (lit≤ tt) 3 first_place (record_sector version 1 text 0) no_head m stored holds
  where
    written : IsHeadOf version 1 (record_sector version 1 text 0)
    written = first_is_head version 1 text (record_sector version 1 text 0) (lit< tt) (written_is_part version 1 text 0)

    no_head : (found number : ℕ) → IsRecordVersion found → IsHeadOf found number (record_sector version 1 text 0) → ⊥
    no_head found number is_record head = other (subst IsRecordVersion (sym head.version_is ∙ written.version_is) is_record)

-- the root of generation 1 in sector 1
abbrev second_root : Root
second_root = record { generation = 1; edits = 0; journal_at = 0; snapshot_len = 0; archive_len = 0 }

second_numbers : AreNumbers second_root
second_numbers = record { generation = lit< tt; edits = lit< tt; journal_at = lit< tt; snapshot_len = lit< tt; archive_len = lit< tt }

pub second_root_misplaced : (disk m : ℕ) (stored : Stored) → Holds 64 m stored (with_sector disk 64 1 (root_sector second_root)) → ⊥
second_root_misplaced disk m stored holds =
    misplaced_root_holds_nothing 64 m (with_sector disk 64 1 (root_sector second_root)) second_root stored
    (record { bytes = seen_same 1 (root_sector second_root) (begun (formatted_image disk 64)) 1 refl; numbers = second_numbers }) refl holds
