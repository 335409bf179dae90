-- What is read as a disk is opened, and what a disk that holds a state opens to.
use Rattle.std.specs.Prelude.{Option, None, IfSome}
use Rattle.std.proofs.Common.{◌≡◌, ◌⊎◌, inl, inr, ℕ, Bool, true, false, ◌<◌, ◌≤◌, ◌+◌, ◌-◌, ◌*◌, suc, List, [], ◌∷◌, length, map, drop}
use Rattle.std.proofs.Common.{Result, Ok, Err, IfErr, refl, sym, ◌∙◌, ap, subst, arith}
use Rattle.std.specs.List.{All}
use Rattle.std.proofs.lemmas.Bool.{false≢true}
use Rattle.std.proofs.lemmas.List.{length-map}
use Rattle.std.proofs.lemmas.List.Elements.{All-map, All-weaker}
use Rattle.sector_disk.specs.Asked.{OnlyReads}
use Rattle.sector_disk.specs.Disk.{History, Image, seen, MayLeave}
use Rattle.sector_disk.specs.Disk.History.{synced}
use Rattle.sector_disk.specs.declared.disk.TheConstants.{SECTOR_BYTES}
use Rattle.sector_disk.proofs.Laws.{seen_is_left}
use Rattle.sector_bytes.specs.Bytes.{StandsIn}
use Rattle.generations.specs.Areas.{IsSize, journal_sectors, area_sectors, area_start}
use Rattle.generations.specs.Disks.{LiveRoot, IsFaultOf}
use Rattle.generations.specs.Faults.{CountsDevice}
use Rattle.generations.specs.Sectors.{version_from}
use Rattle.generations.specs.declared.fault.StoreFault.{StoreFault}
use Rattle.generations.specs.declared.fault.StoreFault.TheVariants.{NotFormatted, TooSmall, Damaged, Device, Memory}
use Rattle.generations.specs.declared.fault.What.TheVariants.{Size, RootSector, Snapshot, Journal, Text}
use Rattle.generations.specs.declared.root.Root.{Root}
use Rattle.generations.proofs.Laws.{one_live, live_no_fault}
use Rattle.edit_journal.specs.Appends.{ring_of, start_of}
use Rattle.edit_journal.specs.Kept.{GoesBack}
use Rattle.edit_journal.specs.Lists.{HasRecords}
use Rattle.edit_journal.specs.Records.{RecordData, AreUpTo, parts_of}
use Rattle.edit_journal.specs.Recovers.{IsRecoverFault}
use Rattle.edit_journal.specs.Ring.{places_of}
use Rattle.edit_journal.specs.declared.fault.JournalFault.{JournalFault}
use Rattle.edit_journal.specs.declared.fault.JournalFault.TheVariants as faults
use Rattle.edit_journal.specs.declared.journal.Journal as journals
use Rattle.edit_journal.specs.declared.journal.Journal.{Journal as JournalData}
use Rattle.edit_journal.specs.declared.sizes.TheConstants.{PART_BYTES}
use Rattle.edit_journal.proofs.Kept.{goes_back_self}
use Rattle.edit_journal.proofs.ReadAgain.{moved_records}
use Rattle.edit_journal.proofs.Recovers.{held_is_journal, one_journal}
use Rattle.cached_map.specs.Cached.{AreReadRight}
use Rattle.edit_text.specs.Recorded.{RecordedEdit}
use Rattle.feature_store.specs.Snapshots.{IsNoSnapshot}
use Rattle.feature_store.specs.Store.{FeatureMap, snapshot}
use Rattle.tile_service.specs.Drafted.{DraftedView, IsDrafted}
use Rattle.tile_service.specs.After.{made, after}
use Rattle.feature_store.specs.declared.limit.TheConstants.{TEXTS_END}
use Rattle.feature_store.proofs.Laws.{snapshot_of_one_map}
use Rattle.published_tiles.specs.Published.{ArePublished}
use Rattle.published_tiles.specs.declared.place.ArchivePlace.{ArchivePlace}
use Rattle.tile_service.specs.Opening.{IsJournalOf, HasSnapshot, IsReplayed, IsRead, IsContentFault, IsOpenFault, HasNoOpenFault}
use Rattle.tile_service.specs.Opening.{recovery_told_as}
use Rattle.tile_service.specs.Replayed.{AreRecordsFor, IsReplayFault, bytes_of}
use Rattle.tile_service.specs.Service.{PublicationView, ServiceView, Publishes, ShowsEdits, IsUp, archive_of}
use Rattle.tile_service.specs.Stored.{Stored, Holds, Keeps, CanRecord, last_of, root_of, record_for, stored_records, map_of, journal_start, journal_ring}
use Rattle.tile_service.specs.Tiles.{WereMaps}
use Rattle.tile_service.proofs.Disk.SectorBytes.{one_stands, each_stands}
use Rattle.tile_service.proofs.Disk.OneState.{one_run, all_recorded, version_known, version_most}
use Rattle.tile_service.proofs.Disk.Replayed.{made_short}
use Rattle.tile_service.proofs.Disk.Roots.{lives}

-- A disk that was synced, and then only read, has the history of the sync.
pub synced_and_read : {D : Type 0} {sectors : D → ℕ} {honest : D → Type 0} {history : D → History} {old middle new : D}
    → (honest middle → history middle ≡ synced (history old)) → OnlyReads sectors honest history middle new
    → honest new → history new ≡ synced (history old)
synced_and_read syncs only is_honest = only.same_history is_honest ∙ syncs (only.was_honest is_honest)

-- ---- the bytes of texts

-- a text has at most the bytes of its parts
parts_hold : (bytes : ℕ) → bytes ≤ PART_BYTES * parts_of bytes
parts_hold bytes = omega arith

-- records have at most the bytes of their places
pub places_hold : (records : List RecordData) → bytes_of records ≤ PART_BYTES * places_of records
places_hold [] = omega arith
places_hold (r ∷ records) = omega (arith, parts_hold (length r.text), places_hold records)

-- so those of a snapshot and of a journal are short together
pub texts_short : (n used places len : ℕ) (records : List RecordData) → IsSize n → len ≤ SECTOR_BYTES * area_sectors n → used ≤ places
    → places ≡ journal_sectors n → used ≡ places_of records → len + bytes_of records < TEXTS_END
texts_short n used places len records size short room is uses = omega (arith, places_hold records, size.1, short, room, is, uses)

-- the texts of a map grow by those of the edits' records at most
after_short : (m : FeatureMap) (edits : List RecordedEdit) → length (snapshot (after m edits)) ≤ length (snapshot m) + bytes_of (map record_for edits)
after_short m [] = omega arith
after_short m (e ∷ edits) = omega (arith, after_short (made m e) edits, made_short m e)

-- and those of the map after the records of a journal by what its places hold
pub replayed_short : (records : List RecordData) (edits : List RecordedEdit) (first m : FeatureMap) (area used : ℕ) → AreRecordsFor records edits
    → length (snapshot first) ≤ area → m ≡ after first edits → used ≡ places_of records → length (snapshot m) ≤ area + PART_BYTES * used
replayed_short records edits first m area used are short is uses =
    omega (
      arith,
      ap (λ (m : FeatureMap). length (snapshot m)) is,
      after_short first edits,
      short,
      ap bytes_of are.are_records,
      places_hold records,
      uses,
    )

-- ---- what is wrong with a snapshot

-- what is in an area isn't the snapshot of a map
no_snapshot : (n : ℕ) (root : Root) (image : Image) (text : List ℕ) → StandsIn (area_start n root.generation) text image
    → length text ≡ root.snapshot_len → IsNoSnapshot text → (m : FeatureMap) → HasSnapshot n root m image → ⊥
no_snapshot n root image text stands len none m has = none m has.is_map
    (one_stands image (area_start n root.generation) (snapshot m) text (has.len ∙ sym len) has.stands stands)

pub snapshot_fault : {T : Type 0} (n version : ℕ) (root : Root) (image : Image) (text : List ℕ) (result : Result T StoreFault)
    → StandsIn (area_start n root.generation) text image → length text ≡ root.snapshot_len
    → IfErr result (λ fault. (fault ≡ Memory) ⊎ ((fault ≡ Damaged Snapshot) × IsNoSnapshot text))
    → IfErr result (λ fault. (fault ≡ Device) ⊎ (fault ≡ Memory) ⊎ IsContentFault n version root image fault)
snapshot_fault n version root image text (Ok done) stands len is = tt
snapshot_fault n version root image text (Err fault) stands len (inl memory) = inr (inl memory)
snapshot_fault n version root image text (Err fault) stands len (inr bad) =
    inr (inr (subst (IsContentFault n version root image) (sym bad.0) (no_snapshot n root image text stands len bad.1)))

-- ---- the store faults for the faults of a recovery

module _ (n version : ℕ) (root : Root) (image : Image) (m : FeatureMap) (has : HasSnapshot n root m image) where
  pub recovery_fault : (fault : JournalFault) (old new : ℕ) → IsRecoverFault old new fault
      → ((records : List RecordData) → fault ≡ faults.Damaged → IsJournalOf n version root records image → ⊥)
      → (recovery_told_as fault ≡ Device) ⊎ (recovery_told_as fault ≡ Memory) ⊎ IsContentFault n version root image (recovery_told_as fault)
  recovery_fault faults.NumbersSpent old new is damaged = absurd is
  recovery_fault (faults.Full need free) old new is damaged = absurd is
  recovery_fault faults.Device old new is damaged = inl refl
  recovery_fault faults.Damaged old new is damaged = inr (inr (m, has, λ records journal. damaged records refl journal))
  recovery_fault faults.Memory old new is damaged = inr (inl refl)

  -- and of a replay
  pub text_fault : (records : List RecordData) (fault : StoreFault) → IsJournalOf n version root records image → IsReplayFault records fault
      → (fault ≡ Device) ⊎ (fault ≡ Memory) ⊎ IsContentFault n version root image fault
  text_fault records fault journal (inl memory) = inr (inl memory)
  text_fault records fault journal (inr bad) =
      inr (inr (subst (IsContentFault n version root image) (sym bad.0) (m, has, records, journal, bad.1)))

-- ---- what was read after a sync stood there before it

pub live_before : (sectors count n : ℕ) (old new : History) (root : Root) → count ≡ sectors → new ≡ synced old → LiveRoot count (seen new) n root
    → LiveRoot sectors (seen old) n root
live_before sectors count n old new root same is live =
    subst (λ (h : History). LiveRoot sectors (seen h) n root) is (subst (λ (c : ℕ). LiveRoot c (seen new) n root) same live)

pub read_after : (sectors n version : ℕ) (old new : History) (root : Root) (journal : journals.Journal) (features : FeatureMap) (touched : List ℕ)
    → new ≡ synced old → LiveRoot sectors (seen old) n root → version ≡ version_from (seen old 0)
    → IsReplayed n version root (seen new) journal features touched → IsRead sectors n version (seen old) root journal features touched
read_after sectors n version old new root journal features touched is live version_is replayed = record {
  live = live;
  version_is = version_is;
  replayed = subst (λ (h : History). IsReplayed n version root (seen h) journal features touched) is replayed;
}

pub fault_after : (sectors n version : ℕ) (old new : History) (root : Root) (fault : StoreFault) → new ≡ synced old → LiveRoot sectors (seen old) n root
    → version ≡ version_from (seen old 0) → (fault ≡ Device) ⊎ (fault ≡ Memory) ⊎ IsContentFault n version root (seen new) fault
    → (fault ≡ Device) ⊎ (fault ≡ Memory) ⊎ IsOpenFault sectors (seen old) fault
fault_after sectors n version old new root fault is live version_is (inl device) = inl device
fault_after sectors n version old new root fault is live version_is (inr (inl memory)) = inr (inl memory)
fault_after sectors n version old new root fault is live version_is (inr (inr content)) = inr (inr (inr (
  n,
  root,
  live,
  subst (λ (v : ℕ). IsContentFault n v root (seen old) fault) version_is
      (subst (λ (h : History). IsContentFault n version root (seen h) fault) is content),
)))

pub root_fault_after : (sectors count : ℕ) (old new : History) (fault : StoreFault) → count ≡ sectors → new ≡ synced old
    → (fault ≡ Device) ⊎ IsFaultOf count (seen new) fault → (fault ≡ Device) ⊎ (fault ≡ Memory) ⊎ IsOpenFault sectors (seen old) fault
root_fault_after sectors count old new fault same is (inl device) = inl device
root_fault_after sectors count old new fault same is (inr root) =
    inr (inr (inl (subst (λ (h : History). IsFaultOf sectors (seen h) fault) is (subst (λ (c : ℕ). IsFaultOf c (seen new) fault) same root))))

-- the version that a read gives after a sync is that from before it
pub version_before : (version : ℕ) (old new : History) → new ≡ synced old → version ≡ version_from (seen new 0) → version ≡ version_from (seen old 0)
version_before version old new is version_is = subst (λ (h : History). version ≡ version_from (seen h 0)) is version_is

-- ---- want of memory

abbrev is_memory : StoreFault → Bool
is_memory Memory = true
is_memory fault = false

-- a failed call of the disk is reported differently,
pub device_no_memory : Device ≡ Memory → ⊥
device_no_memory is = false≢true (ap is_memory is)

-- and so is a root that isn't read
pub root_no_memory : (sectors : ℕ) (image : Image) (fault : StoreFault) → (fault ≡ Device) ⊎ IsFaultOf sectors image fault → fault ≡ Memory → ⊥
root_no_memory sectors image fault (inl device) memory = device_no_memory (sym device ∙ memory)
root_no_memory sectors image fault (inr is) memory = subst (λ (f : StoreFault). IsFaultOf sectors image f) memory is

-- ---- a disk that was read

module _ (sectors n version : ℕ) (image : Image) (root : Root) (journal : journals.Journal) (features : FeatureMap) (touched : List ℕ)
    (is : IsRead sectors n version image root journal features touched) where
  read_journal : (records : List RecordData) → IsJournalOf n version root records image → AreRecordsFor records is.replayed.edits
  read_journal records there = subst (λ (rs : List RecordData). AreRecordsFor rs is.replayed.edits)
      (one_journal (journal_ring n) image version (start_of root.journal_at root.edits) is.replayed.records records is.replayed.are_records there)
      is.replayed.are_edits

  read_no_fault : (fault : StoreFault) → IsContentFault n version root image fault → ⊥
  read_no_fault NotFormatted bad = bad
  read_no_fault TooSmall bad = bad
  read_no_fault (Damaged Size) bad = bad
  read_no_fault (Damaged RootSector) bad = bad
  read_no_fault (Damaged Snapshot) bad = bad is.replayed.snapshot_map is.replayed.has_snapshot
  read_no_fault (Damaged Journal) bad = bad.2 is.replayed.records is.replayed.are_records
  read_no_fault (Damaged Text) bad = bad.4 is.replayed.edits (read_journal bad.2 bad.3)
  read_no_fault Device bad = bad
  read_no_fault Memory bad = bad

  -- It has no fault for which it isn't opened.
  pub read_sound : HasNoOpenFault sectors image
  read_sound fault (inl bad) = live_no_fault sectors image n root fault is.live bad
  read_sound fault (inr bad) =
      let same = one_live sectors image n bad.0 root bad.1 is.live bad.2 in
      read_no_fault fault (subst (λ (v : ℕ). IsContentFault n v root image fault) (sym is.version_is)
      (subst (λ (m : ℕ). IsContentFault m (version_from (image 0)) root image fault) (sym same.0)
      (subst (λ (r : Root). IsContentFault bad.0 (version_from (image 0)) r image fault) (sym same.1) bad.3)))

-- ---- what a disk that holds a state has

are_up_to : (version : ℕ) (edits : List RecordedEdit) → All (CanRecord version) edits → AreUpTo version (map record_for edits)
are_up_to version edits are = All-map (λ (r : RecordData). r.version ≤ version) record_for edits
    (All-weaker (CanRecord version) (λ (e : RecordedEdit). e.version ≤ version) (λ e can. can.version_is) edits are)

module _ (sectors n : ℕ) (stored : Stored) (image : Image) (holds : Holds sectors n stored image) where
  live : LiveRoot sectors image n (root_of stored)
  live = lives sectors image n stored holds

  snapshot_there : HasSnapshot n (root_of stored) stored.snapshot_map image
  snapshot_there = record {
    is_map = holds.is_map;
    len = refl;
    stands = each_stands image (area_start n stored.generation) (snapshot stored.snapshot_map) (λ at. (holds.sectors at).snapshot_bytes);
  }

  one_snapshot : (m : FeatureMap) → HasSnapshot n (root_of stored) m image → m ≡ stored.snapshot_map
  one_snapshot m has = snapshot_of_one_map m stored.snapshot_map has.is_map holds.is_map
      (one_stands image (area_start n stored.generation) (snapshot m) (snapshot stored.snapshot_map) has.len has.stands snapshot_there.stands)

  version_there : version_from (image 0) ≡ stored.version
  version_there = (holds.sectors 0).version refl

  journal_there : IsJournalOf n stored.version (root_of stored) (stored_records stored) image
  journal_there = held_is_journal (journal_ring n) image stored.version (journal_start stored) (stored_records stored)
      (version_most stored.version (version_known sectors n stored image holds)) (are_up_to stored.version stored.since holds.are_edits) holds.journal

  one_records : (records : List RecordData) → IsJournalOf n stored.version (root_of stored) records image → records ≡ stored_records stored
  one_records records is = one_journal (journal_ring n) image stored.version (journal_start stored) records (stored_records stored) is journal_there

  no_content_fault : (fault : StoreFault) → IsContentFault n stored.version (root_of stored) image fault → ⊥
  no_content_fault NotFormatted is = is
  no_content_fault TooSmall is = is
  no_content_fault (Damaged Size) is = is
  no_content_fault (Damaged RootSector) is = is
  no_content_fault (Damaged Snapshot) is = is stored.snapshot_map snapshot_there
  no_content_fault (Damaged Journal) is = is.2 (stored_records stored) journal_there
  no_content_fault (Damaged Text) is = is.4 stored.since
      (record { are_recorded = all_recorded stored.version stored.since holds.are_edits; are_records = one_records is.2 is.3 })
  no_content_fault Device is = is
  no_content_fault Memory is = is

  -- it has no fault for which it isn't opened
  pub no_open_fault : (fault : StoreFault) → IsOpenFault sectors image fault → ⊥
  no_open_fault fault (inl is) = live_no_fault sectors image n (root_of stored) fault live is
  no_open_fault fault (inr is) =
      let same = one_live sectors image n is.0 (root_of stored) is.1 live is.2 in
      no_content_fault fault (subst (λ (v : ℕ). IsContentFault n v (root_of stored) image fault) version_there
      (subst (λ (m : ℕ). IsContentFault m (version_from (image 0)) (root_of stored) image fault) (sym same.0)
      (subst (λ (r : Root). IsContentFault is.0 (version_from (image 0)) r image fault) (sym same.1) is.3)))

  edits_there : (records : List RecordData) (edits : List RecordedEdit) → IsJournalOf n stored.version (root_of stored) records image
      → AreRecordsFor records edits → edits ≡ stored.since
  edits_there records edits is are =
      one_run edits stored.since are.are_recorded (all_recorded stored.version stored.since holds.are_edits) (sym are.are_records ∙ one_records records is)

  module _ {D : Type 0} (count : ℕ) (old history : History) (service : ServiceView D) (root : Root)
      (same_image : seen old ≡ image) (same_count : count ≡ sectors) (after_sync : history ≡ synced old)
      (unbroken : service.broken ≡ false) (generation : service.generation ≡ root.generation)
      (snapshot_len : service.snapshot_len ≡ root.snapshot_len) (archive_len : service.archive_len ≡ root.archive_len)
      (publication : service.publication ≡ None) (undrafted : service.drafting ≡ None) (kept : service.kept_journal ≡ service.journal) (ring : ring_of service.journal ≡ journal_ring service.size)
      (is : IsRead sectors service.size service.version image root service.journal service.features service.touched)
      (nothing : (place : ArchivePlace) (bytes : List ℕ) → ArePublished service.published place bytes)
      (reads : AreReadRight service.features service.touched service.journal.last service.kept) where
    same : (n ≡ service.size) × (root_of stored ≡ root)
    same = one_live sectors image n service.size (root_of stored) root live is.live

    same_version : service.version ≡ stored.version
    same_version = is.version_is ∙ version_there

    replayed : IsReplayed n stored.version (root_of stored) image service.journal service.features service.touched
    replayed = subst (λ (v : ℕ). IsReplayed n v (root_of stored) image service.journal service.features service.touched) same_version
        (subst (λ (m : ℕ). IsReplayed m service.version (root_of stored) image service.journal service.features service.touched) (sym same.0)
        (subst (λ (r : Root). IsReplayed service.size service.version r image service.journal service.features service.touched) (sym same.1) is.replayed))

    records_are : replayed.records ≡ stored_records stored
    records_are = one_records replayed.records replayed.are_records

    -- a crash leaves what a read gave
    one_left : (left : Image) → MayLeave history left → image ≡ left
    one_left left may =
        let is_seen : (at : ℕ) → left at ≡ seen old at = subst (λ (h : History). MayLeave h left) after_sync may in
        sym same_image ∙ sym (λ i at. is_seen at i)

    keeps : Keeps count service.size stored history
    keeps left may = subst (λ (c : ℕ). Holds c service.size stored left) (sym same_count) (subst (λ (m : ℕ). Holds sectors m stored left) same.0
        (subst (λ (i : Image). Holds sectors n stored i) (one_left left may) holds))

    same_snapshot : replayed.snapshot_map ≡ stored.snapshot_map
    same_snapshot = one_snapshot replayed.snapshot_map replayed.has_snapshot

    same_edits : replayed.edits ≡ stored.since
    same_edits = edits_there replayed.records replayed.edits replayed.are_records replayed.are_edits

    map_is : service.features ≡ map_of stored
    map_is = replayed.map_is ∙ (λ i. after (same_snapshot i) (same_edits i))

    were : WereMaps service.features service.touched service.journal.last stored.edits stored.snapshot_map stored.since
    were =
        subst (λ (es : List RecordedEdit). WereMaps service.features service.touched service.journal.last stored.edits stored.snapshot_map es) same_edits
        (subst (λ (m : FeatureMap). WereMaps service.features service.touched service.journal.last stored.edits m replayed.edits) same_snapshot
        replayed.were)

    used_is : service.journal.used ≡ places_of (stored_records stored)
    used_is = replayed.used_is ∙ ap places_of records_are

    last_is : service.journal.last ≡ last_of stored
    last_is = omega (arith, replayed.last_is, ap length records_are, length-map stored.since record_for)

    -- its journal has the edits since, and no others
    has_stored : HasRecords (stored_records stored) service.journal history
    has_stored = record {
      reads = moved_records (journal_ring service.size) (ring_of service.journal) (journal_start stored)
          (start_of service.journal.place service.journal.edits) (stored_records stored) (seen history) ring
          (λ i. record { place = replayed.place_is i; number = suc (replayed.edits_are i) })
          (keeps (seen history) (seen_is_left history)).journal.records;
      uses = used_is;
      counts = omega (arith, last_is, replayed.edits_are, length-map stored.since record_for);
    }

    shows_opened : ShowsEdits history service stored.since
    shows_opened = record {
      back = subst (λ (j : JournalData). GoesBack j service.journal) (sym kept) (goes_back_self service.journal);
      records = record {
        all = subst (λ (j : JournalData). HasRecords (stored_records stored) j history) (sym kept) has_stored;
        in_use = subst (λ (n : ℕ). HasRecords (drop n (stored_records stored)) service.journal history)
            (let none : 0 ≡ service.journal.edits - service.kept_journal.edits = omega (arith, ap (λ (j : JournalData). j.edits) kept) in none) has_stored;
      };
      are_edits = subst (λ (v : ℕ). All (CanRecord v) stored.since) (sym same_version) (keeps (seen history) (seen_is_left history)).are_edits;
    }

    -- what is read of it is its map and its journal
    pub opens : (service.size ≡ n) × IsUp count history stored service
    opens = (
      sym same.0,
      record {
        keeps = keeps;
        unbroken = unbroken;
        version_is = same_version;
        generation_is = generation ∙ sym (ap (λ (r : Root). r.generation) same.1);
        snapshot_len_is = snapshot_len ∙ sym (ap (λ (r : Root). r.snapshot_len) same.1);
        archive_len_is = archive_len ∙ sym (ap (λ (r : Root). r.archive_len) same.1);
        map_is = map_is;
        place_is = replayed.place_is;
        edits_are = replayed.edits_are;
        used_is = used_is;
        ring_is = ring;
        last_is = last_is;
        publication = subst (λ (o : Option PublicationView). IfSome o (Publishes service.size stored history)) (sym publication) tt;
        drafting = subst (λ (o : Option DraftedView). IfSome o (IsDrafted service.size stored)) (sym undrafted) tt;
        were = were;
        archived = nothing (archive_of service) stored.archive;
        reads = reads;
        older = [];
        shows = shows_opened;
      },
    )

-- of faults only those of the disk and of allocations are left
pub no_other_fault : (sectors n : ℕ) (stored : Stored) (image : Image) (fault : StoreFault) → Holds sectors n stored image
    → (fault ≡ Device) ⊎ (fault ≡ Memory) ⊎ IsOpenFault sectors image fault → (fault ≡ Device) ⊎ (fault ≡ Memory)
no_other_fault sectors n stored image fault holds (inl device) = inl device
no_other_fault sectors n stored image fault holds (inr (inl memory)) = inr memory
no_other_fault sectors n stored image fault holds (inr (inr is)) = absurd (no_open_fault sectors n stored image holds fault is)

-- ---- what a fault makes of the count of faults

-- a recovery's fault is told as one that counts as much
pub recovery_counts : (fault : JournalFault) (old new : ℕ) → IsRecoverFault old new fault → CountsDevice (recovery_told_as fault) old new
recovery_counts faults.NumbersSpent old new never = absurd never
recovery_counts (faults.Full need free) old new never = absurd never
recovery_counts faults.Device old new failed = failed
recovery_counts faults.Damaged old new same = same
recovery_counts faults.Memory old new same = same

-- and no call of the disk failed where edits aren't replayed
pub replay_counts : (records : List RecordData) (fault : StoreFault) (old new : ℕ) → IsReplayFault records fault → new ≡ old → CountsDevice fault old new
replay_counts records fault old new (inl is) same = subst (λ (f : StoreFault). CountsDevice f old new) (sym is) same
replay_counts records fault old new (inr w) same = subst (λ (f : StoreFault). CountsDevice f old new) (sym w.0) same
