-- What an edit leaves of what a disk holds, and the service that it leaves.
use Rattle.std.specs.Prelude.{Option, None, Some, IfSome, Result, Err}
use Rattle.std.proofs.Common.{◌≡◌, ◌≢◌, ◌⊎◌, ◌≤◌, ◌+◌, ◌%◌, inl, inr, ⊎_elim, ℕ, suc, List, [], ◌∷◌, ◌++◌, length, drop, append_assoc, refl, sym, ◌∙◌, ap, subst, arith, length-append}
use Rattle.std.proofs.lemmas.List.{length-map, drop-append-le}
use Rattle.sector_disk.specs.Disk.{Image, History, seen, moment}
use Rattle.sector_disk.specs.Moments.{LeavesOnly}
use Rattle.sector_disk.proofs.History.{started}
use Rattle.sector_disk.proofs.Moments.{since_now, is_later}
use Rattle.generations.specs.Areas.{journal_sectors}
use Rattle.edit_journal.specs.Records.{RecordData}
use Rattle.edit_journal.specs.Ring.{Ring, RecordStart, HoldsOnly, places_of}
use Rattle.edit_journal.specs.Appends.{ring_of, start_of, IsAt, IsAppendFault, AsBefore, ReadsAsBefore, HoldsOneMore}
use Rattle.edit_journal.specs.declared.fault.JournalFault.{JournalFault}
use Rattle.edit_journal.specs.declared.fault.JournalFault.TheVariants as journals
use Rattle.edit_journal.specs.declared.journal.Journal.{Journal}
use Rattle.cached_map.specs.Cached.{CachedView, WasMap, AreReadRight}
use Rattle.edit_text.specs.Recorded.{RecordedEdit, IsRecorded}
use Rattle.feature_store.specs.Store.{FeatureMap, snapshot}
use Rattle.published_tiles.specs.Published.{PublishedView, ArePublished}
use Rattle.published_tiles.specs.declared.place.ArchivePlace.{ArchivePlace}
use Rattle.tile_service.specs.Drafted.{DraftedView, count_of, IsDrafted}
use Rattle.tile_service.specs.After.{made}
use Rattle.tile_service.specs.Inside.{service_view}
use Rattle.tile_service.specs.Machine.{Call, edit}
use Rattle.tile_service.specs.Runs.{TakesEdit, waiting_by}
use Rattle.tile_service.specs.Service.{PublicationView, ServiceView, CountsDevice, count_at, Publishes, IsUp, MayStand, EventLeaves, told_as, archive_of}
use Rattle.tile_service.specs.Service.{ShowsEdits, StillShows}
use Rattle.tile_service.specs.Stored.{Stored, Holds, Keeps, CanRecord, record_for, with_edit, map_of, stored_records, journal_ring, journal_start}
use Rattle.tile_service.specs.Tiles.{archive_place}
use Rattle.tile_service.proofs.Archive.Unchanged.{same_stays}
use Rattle.tile_service.specs.declared.fault.ServiceFault.{ServiceFault}
use Rattle.tile_service.specs.declared.fault.ServiceFault.TheVariants.{Device}
use Rattle.tile_service.specs.declared.service.Service.TheInside.{Inside}
use Rattle.tile_service.proofs.Edits.ShownEdits.{older_count, still_from}
use Rattle.tile_service.proofs.Edits.JournalAppend.{append_leaves, append_made, records_with}
use Rattle.tile_service.proofs.Tiles.EarlierMaps.{were_one}
use Rattle.tile_service.proofs.Publications.Installed.{map_stays, records_stay, published_stays}
use Rattle.tile_service.proofs.Publications.DuringEdits.{goes_on_with_edit}
use Rattle.tile_service.proofs.Disk.Replayed.{after_one}

-- A publication under way is also one of the same with the edit, if reads return the same as before for all but free places.
module _ (n : ℕ) (stored : Stored) (e : RecordedEdit) (place used : ℕ) (old new : History)
    (reads : ReadsAsBefore (journal_ring n) place used (seen old) (seen new)) where
  publishes_on : (p : PublicationView) → Publishes n stored old p → Publishes n (with_edit stored e) new p
  publishes_on p was = record {
    later = was.later;
    under_way = goes_on_with_edit n stored (count_at stored p) p.content.archive e p.written place used old new was.under_way reads;
    snapshot_is = was.snapshot_is ∙ ap snapshot (sym (map_stays n stored (count_at stored p) p.content.archive e was.under_way.can.within));
    place_is = was.place_is
        ∙ ap (λ (s : Stored). s.journal_at) (sym (published_stays n stored (count_at stored p) p.content.archive e was.under_way.can.within));
    places_are = was.places_are ∙ ap places_of (sym (records_stay n stored (count_at stored p) p.content.archive e was.under_way.can.within));
  }

  all_on : (publication : Option PublicationView) → IfSome publication (Publishes n stored old)
      → IfSome publication (Publishes n (with_edit stored e) new)
  all_on None was = tt
  all_on (Some p) was = publishes_on p was

-- A publication in the making is one of the same with the edit, too.
pub drafted_on : (n : ℕ) (stored : Stored) (e : RecordedEdit) (d : DraftedView) → IsDrafted n stored d → IsDrafted n (with_edit stored e) d
drafted_on n stored e d was =
    let records = records_stay n stored (count_of stored d) [] e was.within in
    record {
      later = was.later;
      within = omega (arith, was.within, length-append stored.since (e ∷ []));
      map_is = was.map_is ∙ sym (map_stays n stored (count_of stored d) [] e was.within);
      place_is = was.place_is ∙ ap (λ rs. (stored.journal_at + places_of rs) % journal_sectors n) (sym records);
      places_are = was.places_are ∙ ap places_of (sym records);
    }

drafts_on : (n : ℕ) (stored : Stored) (e : RecordedEdit) (d : Option DraftedView) → IfSome d (IsDrafted n stored)
    → IfSome d (IsDrafted n (with_edit stored e))
drafts_on n stored e None was = tt
drafts_on n stored e (Some d) was = drafted_on n stored e d was

-- A call that refuses an edit, for a fault that isn't the disk's, changes nothing.
pub refuses_edit : {D : Type 0} (sectors : D → ℕ) (honest : D → Type 0) (history : D → History) (failures : D → ℕ) (old new : ServiceView D)
    (call : Call) (e : RecordedEdit) (fault : ServiceFault) → new ≡ old → fault ≢ Device
    → TakesEdit sectors honest history failures old call e (Err fault) new
refuses_edit sectors honest history failures old new call e fault same other =
    subst (TakesEdit sectors honest history failures old call e (Err fault)) (sym same) (record {
      size = refl;
      publication = tt;
      drafting = refl;
      asked = record { same_count = refl; was_honest = λ is_honest. is_honest };
      failed = inr (other, refl);
      unwritten = λ not. refl;
      unchanged = λ not. refl;
      touches = refl;
      knows = λ n was known. known;
      cached = refl;
      shows = λ edits shows is_honest. still_from (history old.disk) old old edits [] (waiting_by (edit call e (Err fault))) refl refl shows;
      keeps_archive = record {
        generation = refl;
        snapshot_len = refl;
        archive_len = refl;
        shows = λ archive shown is_honest. shown;
        journal = record { stays = same_stays old.journal old.journal refl; reads = λ is_honest offset lt. refl };
      };
      keeps_areas = λ generation is_honest at inside. refl;
      any_moment = λ stored is_honest up. started (history old.disk) _ (λ image may. inl (up.keeps image may));
      acknowledged = λ stored is_honest up. tt;
      refused = λ stored is_honest up not. up;
      steps = λ is_honest. tt;
    })

-- The fault of an append says whether a call of the disk has failed.
pub append_counts : (journal : Journal) (parts old new : ℕ) (fault : JournalFault) (told : ServiceFault) → told ≡ told_as fault
    → IsAppendFault journal parts old new fault → CountsDevice told old new
append_counts journal parts old new journals.NumbersSpent told is why = inr ((λ device. cc), why.1)
append_counts journal parts old new (journals.Full need free) told is why = inr ((λ device. cc), why.4)
append_counts journal parts old new journals.Device told is why = inl (is, why.2)
append_counts journal parts old new journals.Damaged told is why = absurd why
append_counts journal parts old new journals.Memory told is why = absurd why

-- After an append that is refused for another fault than the disk's, the service is as it was.
pub refused_unchanged : {D : Type 0} (inside : Inside D) (disk : D) (journal kept_journal : Journal) (map : CachedView) (new : ServiceView D)
    (fault : JournalFault) (told : ServiceFault) → told ≡ told_as fault → (fault ≡ journals.Device) ⊎ (disk ≡ inside.disk)
    → (fault ≡ journals.Device) ⊎ (kept_journal ≡ inside.kept_journal) → journal ≡ inside.journal → map ≡ record inside.map { spare = map.spare }
    → (fault ≢ journals.Device → new ≡ service_view (record inside { disk = disk; journal = journal; kept_journal = kept_journal; map = map }))
    → told ≢ Device → new ≡ service_view inside
refused_unchanged inside disk journal kept_journal map new fault told is (inl device) behind kept same left other = absurd (other (is ∙ ap told_as device))
refused_unchanged inside disk journal kept_journal map new fault told is (inr unwritten) (inl device) kept same left other =
    absurd (other (is ∙ ap told_as device))
refused_unchanged inside disk journal kept_journal map new fault told is (inr unwritten) (inr behind) kept same left other =
    left (λ device. other (is ∙ ap told_as device))
    ∙ (λ i. service_view (record inside { disk = unwritten i; journal = kept i; kept_journal = behind i; map = same i }))

module _ {D : Type 0} (sectors : D → ℕ) (history : D → History) (stored : Stored) (service : ServiceView D)
    (ring : ring_of service.journal ≡ journal_ring service.size) (up : IsUp (sectors service.disk) (history service.disk) stored service) where
  start : start_of service.journal.place service.journal.edits ≡ journal_start stored
  start = λ i. record { place = up.place_is i; number = suc (up.edits_are i) }

  -- what each image of an event with this answer holds
  abbrev leaves_by : Call → RecordedEdit → Result ℕ ServiceFault → Image → Type 0
  leaves_by call e outcome = EventLeaves (sectors service.disk) service.size stored service.publication (edit call e outcome)

  -- the append's own words for the sectors that it leaves alone, and for those of the journal
  abbrev pub Alone : D → Type 0
  Alone new = LeavesOnly (history service.disk) (history new)
      (AsBefore (ring_of service.journal) service.journal.place service.journal.used (history service.disk))

  abbrev pub OneMore : D → RecordData → Type 0
  OneMore new r = LeavesOnly (history service.disk) (history new)
      (HoldsOneMore (ring_of service.journal) (start_of service.journal.place service.journal.edits) (stored_records stored) r)

  -- records that are in the journal by its own words are there by those of what is stored
  there : (records : List RecordData) (image : Image)
      → HoldsOnly (ring_of service.journal) (start_of service.journal.place service.journal.edits) records image
      → HoldsOnly (journal_ring service.size) (journal_start stored) records image
  there records image is = subst (λ (r : Ring). HoldsOnly r (journal_start stored) records image) ring
      (subst (λ (s : RecordStart). HoldsOnly (ring_of service.journal) s records image) start is)

  -- The journal has the records of the edits since the snapshot.
  pub up_is_at : IsAt (stored_records stored) service.journal (history service.disk)
  up_is_at = record {
    keeps = λ image may. subst (λ (r : Ring). HoldsOnly r (start_of service.journal.place service.journal.edits) (stored_records stored) image)
        (sym ring) (subst (λ (s : RecordStart). HoldsOnly (journal_ring service.size) s (stored_records stored) image)
        (sym start) (up.keeps image may).journal);
    uses = up.used_is;
    counts = omega (arith, up.last_is, up.edits_are, length-map stored.since record_for);
  }

  as_before : (image : Image) → AsBefore (ring_of service.journal) service.journal.place service.journal.used (history service.disk) image
      → AsBefore (journal_ring service.size) service.journal.place service.journal.used (history service.disk) image
  as_before image is =
      subst (λ (r : Ring). AsBefore r service.journal.place service.journal.used (history service.disk) image) ring is

  -- an edit in the version of the service's disk can be recorded there
  can_record : (e : RecordedEdit) → IsRecorded e → e.version ≡ service.version → CanRecord stored.version e
  can_record e recorded version = record { recorded = recorded; version_is = omega (arith, version, up.version_is) }

  module _ (e : RecordedEdit) (recorded : IsRecorded e) (version : e.version ≡ service.version) (r : RecordData) (is_record : r ≡ record_for e) (new : D)
      (alone : Alone new) where
    -- with the record there, the edit's is there
    with_record : (image : Image) → HoldsOnly (ring_of service.journal) (start_of service.journal.place service.journal.edits)
        (stored_records stored ++ r ∷ []) image
        → HoldsOnly (journal_ring service.size) (journal_start stored) (stored_records stored ++ record_for e ∷ []) image
    with_record image is = subst (λ (x : RecordData). HoldsOnly (journal_ring service.size) (journal_start stored) (stored_records stored ++ x ∷ []) image)
        is_record (there (stored_records stored ++ r ∷ []) image is)

    -- An append that is made, or in doubt, leaves what was stored, or the same with the edit.
    pub append_any_moment : (call : Call) (outcome : Result ℕ ServiceFault) → MayStand outcome → OneMore new r
        → LeavesOnly (history service.disk) (history new) (leaves_by call e outcome)
    append_any_moment call outcome may leaves = record {
      follows = leaves.follows;
      each = λ image left. ⊎_elim
          (λ (same : Holds (sectors service.disk) service.size stored image). inl same)
          (λ (more : Holds (sectors service.disk) service.size (with_edit stored e) image). inr (may, more))
          (append_leaves (sectors service.disk) service.size stored e (history service.disk) service.journal.place service.journal.used up.keeps
          (can_record e recorded version) image
          (as_before image (alone.each image left)) (⊎_elim
          (λ is. inl (there (stored_records stored) image is))
          (λ is. inr (with_record image is))
          (leaves.each image left)));
    }

    -- An append that fails leaves what was stored, and in doubt the same with the edit.
    pub refused_any_moment : (call : Call) (fault : JournalFault) (told : ServiceFault) → told ≡ told_as fault
        → (fault ≡ journals.Device) ⊎ (new ≡ service.disk) → OneMore new r → LeavesOnly (history service.disk) (history new) (leaves_by call e (Err told))
    refused_any_moment call fault told is (inl device) leaves = append_any_moment call (Err told) (is ∙ ap told_as device) leaves
    refused_any_moment call fault told is (inr same) leaves = subst (λ (d : D). LeavesOnly (history service.disk) (history d) (leaves_by call e (Err told)))
        (sym same) (started (history service.disk) _ (λ image may. inl (up.keeps image may)))

    -- Where the journal has the edit, every image that is left now holds the same with the edit.
    keeps_edit : (journal : Journal) → ring_of journal ≡ ring_of service.journal
        → start_of journal.place journal.edits ≡ start_of service.journal.place service.journal.edits
        → IsAt (stored_records stored ++ r ∷ []) journal (history new)
        → Keeps (sectors service.disk) service.size (with_edit stored e) (history new)
    keeps_edit journal same begins is image may =
        append_made (sectors service.disk) service.size stored e (history service.disk) service.journal.place service.journal.used up.keeps
        (can_record e recorded version) image
        (as_before image (alone.each image
        (since_now (history new) (moment (history service.disk)) image (is_later (history service.disk) (history new) alone.follows) may)))
        (with_record image
        (subst (λ (x : Ring). HoldsOnly x (start_of service.journal.place service.journal.edits) (stored_records stored ++ r ∷ []) image) same
        (subst (λ (s : RecordStart). HoldsOnly (ring_of journal) s (stored_records stored ++ r ∷ []) image) begins (is.keeps image may))))

    -- After an append the service continues from the same with the edit.
    pub up_with_edit : (after : ServiceView D) → after.disk ≡ new → sectors new ≡ sectors service.disk → after.size ≡ service.size
        → (ring_of after.journal ≡ ring_of service.journal)
        × (start_of after.journal.place after.journal.edits ≡ start_of service.journal.place service.journal.edits)
        → IsAt (stored_records stored ++ r ∷ []) after.journal (history new) → after.features ≡ made service.features e
        → ((n : ℕ) (was : FeatureMap) → WasMap service.features service.touched service.journal.last n was
        → WasMap after.features after.touched after.journal.last n was)
        → WasMap after.features after.touched after.journal.last after.journal.last after.features
        → (AreReadRight service.features service.touched service.journal.last service.kept
        → AreReadRight after.features after.touched after.journal.last after.kept)
        → after.version ≡ service.version → after.generation ≡ service.generation → after.snapshot_len ≡ service.snapshot_len
        → after.archive_len ≡ service.archive_len → after.publication ≡ service.publication → after.drafting ≡ service.drafting
        → after.published ≡ service.published → after.broken ≡ service.broken
        → ReadsAsBefore (ring_of service.journal) service.journal.place service.journal.used (seen (history service.disk)) (seen (history new))
        → ((edits : List RecordedEdit) → ShowsEdits (history service.disk) service edits → StillShows (history new) service after edits (e ∷ []) 0)
        → IsUp (sectors new) (history new) (with_edit stored e) after
    up_with_edit after disk count size same is features since now_is right version generation snapshot_len archive_len publication drafting cached broken
        reads shown = record {
          keeps = subst (λ (c : ℕ). Keeps c after.size (with_edit stored e) (history new)) (sym count)
              (subst (λ (n : ℕ). Keeps (sectors service.disk) n (with_edit stored e) (history new)) (sym size) (keeps_edit after.journal same.0 same.1 is));
          unbroken = broken ∙ up.unbroken;
          version_is = version ∙ up.version_is;
          generation_is = generation ∙ up.generation_is;
          snapshot_len_is = snapshot_len ∙ up.snapshot_len_is;
          archive_len_is = archive_len ∙ up.archive_len_is;
          map_is = map_is;
          place_is = ap (λ (s : RecordStart). s.place) same.1 ∙ up.place_is;
          edits_are = edits;
          used_is = now.uses;
          ring_is = same.0 ∙ ring ∙ sym (ap journal_ring size);
          last_is = omega (arith, now.counts, edits, length-map (stored.since ++ e ∷ []) record_for);
          publication = subst (λ (k : ℕ). IfSome after.publication (Publishes k (with_edit stored e) (history new))) (sym size)
              (subst (λ (o : Option PublicationView). IfSome o (Publishes service.size (with_edit stored e) (history new))) (sym publication)
              (all_on service.size stored e service.journal.place service.journal.used (history service.disk) (history new)
              (subst (λ (r : Ring). ReadsAsBefore r service.journal.place service.journal.used (seen (history service.disk)) (seen (history new))) ring reads)
              service.publication up.publication));
          drafting = subst (λ (k : ℕ). IfSome after.drafting (IsDrafted k (with_edit stored e))) (sym size)
              (subst (λ (o : Option DraftedView). IfSome o (IsDrafted service.size (with_edit stored e))) (sym drafting)
              (drafts_on service.size stored e service.drafting up.drafting));
          were = were_one service.features service.touched service.journal.last after.features after.touched after.journal.last since now_is stored.edits
              stored.snapshot_map stored.since e
              (omega (arith, now.counts, edits, length-map (stored.since ++ e ∷ []) record_for, length-append stored.since (e ∷ []))) map_is up.were;
          archived = subst (λ (t : PublishedView). ArePublished t (archive_of after) stored.archive) (sym cached)
              (subst (λ (p : ArchivePlace). ArePublished service.published p stored.archive)
              (sym (λ i. archive_place (size i) (generation i) (snapshot_len i) (archive_len i))) up.archived);
          reads = right up.reads;
          older = drop still.count up.older;
          shows = subst (ShowsEdits (history new) after) (ap (λ (l : List RecordedEdit). l ++ e ∷ []) (drop-append-le still.count up.older stored.since few)
              ∙ append_assoc (drop still.count up.older) stored.since (e ∷ [])) still.shows;
        }
      where
        still : StillShows (history new) service after (up.older ++ stored.since) (e ∷ []) 0
        still = shown (up.older ++ stored.since) up.shows

        -- none of those since the snapshot goes
        few : still.count ≤ length up.older
        few = omega (
          arith,
          still.forgotten,
          still.shows.back.edits,
          ap (λ (s : RecordStart). s.number) same.1,
          up.edits_are,
          older_count (sectors service.disk) (history service.disk) stored service up,
        )

        map_is : after.features ≡ map_of (with_edit stored e)
        map_is = features ∙ ap (λ (m : FeatureMap). made m e) up.map_is ∙ sym (after_one stored.snapshot_map stored.since e)

        now : IsAt (stored_records (with_edit stored e)) after.journal (history new)
        now = subst (λ (records : List RecordData). IsAt records after.journal (history new))
            (ap (λ (x : RecordData). stored_records stored ++ x ∷ []) is_record ∙ sym (records_with stored e)) is

        edits : after.journal.edits ≡ stored.edits
        edits = omega (arith, ap (λ (s : RecordStart). s.number) same.1, up.edits_are)
