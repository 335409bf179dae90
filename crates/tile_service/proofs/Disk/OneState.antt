-- Laws of what a disk holds, for the crates above.
use Rattle.std.proofs.Common.{◌≡◌, inl, inr, ℕ, suc, ◌≤◌, ◌+◌, List, [], ◌∷◌, length, map, refl, sym, ◌∙◌, ap, subst, arith}
use Rattle.std.specs.List.{All}
use Rattle.std.proofs.lemmas.List.Elements.{All-head, All-tail, All-weaker}
use Rattle.sector_disk.specs.Disk.{Image}
use Rattle.generations.specs.Areas.{area_start, sectors_of}
use Rattle.generations.specs.Sectors.{IsVersion}
use Rattle.generations.specs.declared.root.Root.{Root}
use Rattle.generations.specs.declared.sizes.TheConstants.{LAST_VERSION}
use Rattle.generations.proofs.Laws.{one_live}
use Rattle.edit_journal.specs.Records.{RecordData, record_of}
use Rattle.edit_journal.specs.Ring.{Ring, RecordStart, HoldsOnly}
use Rattle.edit_journal.proofs.Laws.{one_list}
use Rattle.edit_text.specs.Recorded.{RecordedEdit, IsRecorded}
use Rattle.edit_text.proofs.Recorded.{one_recorded}
use Rattle.feature_store.specs.Store.{snapshot}
use Rattle.feature_store.proofs.Laws.{snapshot_of_one_map}
use Rattle.tile_service.specs.Stored.{Stored, Holds, CanRecord, root_of, HasBytes, record_for, stored_records, journal_ring, journal_start}
pub use Rattle.tile_service.proofs.Edits.JournalAppend.{append_leaves}
use Rattle.tile_service.proofs.Disk.SectorBytes.{one_bytes}
pub use Rattle.tile_service.proofs.Disk.Formatted.{fresh_holds}
pub use Rattle.tile_service.proofs.Disk.Roots.{lives}

abbrev head : List RecordData → RecordData
head [] = record_of 0 []
head (r ∷ records) = r

abbrev rest_of : List RecordData → List RecordData
rest_of [] = []
rest_of (r ∷ records) = records

-- edits with the same records are the same
pub one_run : (edits others : List RecordedEdit) → All IsRecorded edits → All IsRecorded others → map record_for edits ≡ map record_for others → edits ≡ others
one_run [] [] are too same = refl
one_run [] (other ∷ others) are too same = absurd (omega (arith, ap length same))
one_run (edit ∷ edits) [] are too same = absurd (omega (arith, ap length same))
one_run (edit ∷ edits) (other ∷ others) are too same =
    let first : edit ≡ other =
    one_recorded edit other (All-head IsRecorded edit edits are) (All-head IsRecorded other others too)
    (ap (λ (records : List RecordData). (head records).version) same) (ap (λ (records : List RecordData). (head records).text) same) in
    let rest : edits ≡ others = one_run edits others (All-tail IsRecorded edit edits are) (All-tail IsRecorded other others too) (ap rest_of same) in
    λ i. first i ∷ rest i

-- edits that can be recorded are recorded
pub all_recorded : (version : ℕ) (edits : List RecordedEdit) → All (CanRecord version) edits → All IsRecorded edits
all_recorded version edits are = All-weaker (CanRecord version) IsRecorded (λ e can. can.recorded) edits are

pub version_known : (count n : ℕ) (stored : Stored) (image : Image) → Holds count n stored image → IsVersion stored.version
version_known count n stored image holds = subst IsVersion ((holds.sectors 0).version refl) ((holds.sectors 0).format refl).stands.0

-- a version is at most the last one
pub version_most : (version : ℕ) → IsVersion version → version ≤ LAST_VERSION
version_most version (inl is) = omega (arith, is)
version_most version (inr is) = omega (arith, is)

-- An image holds at most one state, on at most one count of sectors.
pub one_state : (count : ℕ) (image : Image) (n m : ℕ) (a b : Stored) → Holds count n a image → Holds count m b image → (n ≡ m) × (a ≡ b)
one_state count image n m a b is too =
    let live = one_live count image n m (root_of a) (root_of b) (lives count image n a is) (lives count image m b too) in
    let sectors : n ≡ m = live.0 in
    let version : a.version ≡ b.version = sym ((is.sectors 0).version refl) ∙ (too.sectors 0).version refl in
    let generation : a.generation ≡ b.generation = ap (λ (r : Root). r.generation) live.1 in
    let edits : a.edits ≡ b.edits = ap (λ (r : Root). r.edits) live.1 in
    let place : a.journal_at ≡ b.journal_at = ap (λ (r : Root). r.journal_at) live.1 in
    let first : area_start n a.generation ≡ area_start m b.generation = (λ i. area_start (sectors i) (generation i)) in
    let texts_len : length (snapshot a.snapshot_map) ≡ length (snapshot b.snapshot_map) = ap (λ (r : Root). r.snapshot_len) live.1 in
    let archive_len : length a.archive ≡ length b.archive = ap (λ (r : Root). r.archive_len) live.1 in
    let same_texts : snapshot a.snapshot_map ≡ snapshot b.snapshot_map =
    one_bytes image (area_start n a.generation) (snapshot a.snapshot_map) (snapshot b.snapshot_map) texts_len (λ at. (is.sectors at).snapshot_bytes)
    (λ at. subst (λ (f : ℕ). HasBytes f (snapshot b.snapshot_map) at (image at)) (sym first) (too.sectors at).snapshot_bytes) in
    let behind : area_start n a.generation + sectors_of (length (snapshot a.snapshot_map))
    ≡ area_start m b.generation + sectors_of (length (snapshot b.snapshot_map)) =
    (λ i. first i + sectors_of (texts_len i)) in
    let archive : a.archive ≡ b.archive =
    one_bytes image (area_start n a.generation + sectors_of (length (snapshot a.snapshot_map))) a.archive b.archive archive_len
    (λ at. (is.sectors at).archive_bytes)
    (λ at. subst (λ (f : ℕ). HasBytes f b.archive at (image at)) (sym behind) (too.sectors at).archive_bytes) in
    let maps : a.snapshot_map ≡ b.snapshot_map = snapshot_of_one_map a.snapshot_map b.snapshot_map is.is_map too.is_map same_texts in
    let ring : journal_ring n ≡ journal_ring m = ap journal_ring sectors in
    let start : journal_start a ≡ journal_start b = (λ i. record { place = place i; number = suc (edits i) }) in
    let there : HoldsOnly (journal_ring n) (journal_start a) (stored_records b) image =
    subst (λ (r : Ring). HoldsOnly r (journal_start a) (stored_records b) image) (sym ring)
    (subst (λ (s : RecordStart). HoldsOnly (journal_ring m) s (stored_records b) image) (sym start) too.journal) in
    let since : a.since ≡ b.since =
    one_run a.since b.since (all_recorded a.version a.since is.are_edits) (all_recorded b.version b.since too.are_edits)
    (one_list (journal_ring n) image (journal_start a) (stored_records a) (stored_records b) is.journal there) in (
      sectors,
      λ i. record {
        version = version i;
        generation = generation i;
        snapshot_map = maps i;
        edits = edits i;
        since = since i;
        journal_at = place i;
        archive = archive i;
      },
    )
