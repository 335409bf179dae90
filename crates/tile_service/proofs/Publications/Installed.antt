-- What is stored once a publication is installed.
use Rattle.std.proofs.Common.{◌≡◌, ◌⊎◌, inl, inr, ⊎_elim, ℕ, false, zero, suc, ◌<◌, ◌≤◌, ◌+◌, ◌-◌, ◌%◌}
use Rattle.std.proofs.Common.{List, [], ◌∷◌, ◌++◌, length, take, drop, append_assoc, Result, Ok, Err, OnOk, refl, sym, ◌∙◌, ap, subst, arith}
use Rattle.std.proofs.Common.{length-append, length-drop}
use Rattle.std.specs.Prelude.{Option, None, IfSome}
use Rattle.std.proofs.lemmas.List.{length-map, length-take, drop-map, take_all, take-append-le, take-append-drop, drop-append-le}
use Rattle.std.proofs.lemmas.List.Elements.{All-drop}
use Rattle.std.proofs.lemmas.Nat.{mod_below}
use Rattle.sector_disk.specs.Disk.{Image, History, seen, MayLeave}
use Rattle.sector_disk.specs.Disk.History.{begun, wrote, synced}
use Rattle.sector_disk.specs.Moments.{LeavesOnly}
use Rattle.sector_disk.proofs.History.{weaken}
use Rattle.sector_disk.proofs.Laws.{seen_is_left}
use Rattle.sector_bytes.specs.Bytes.{sector_piece}
use Rattle.generations.specs.Areas.{journal_sectors, area_sectors, area_start, sectors_of}
use Rattle.generations.specs.Installs.{root_at, WithRoot, Installs}
use Rattle.generations.specs.Sectors.{root_sector, AreNumbers, IsFormat, IsRootOf, version_from}
use Rattle.generations.proofs.Installs.{installed_image}
use Rattle.edit_journal.specs.Appends.{ring_of, Keeps as KeepsRecords}
use Rattle.edit_journal.specs.Records.{RecordData}
use Rattle.edit_journal.specs.Releases.{MayTake}
use Rattle.edit_journal.specs.Ring.{Ring, AreRecords, places_of, HoldsOnly}
use Rattle.edit_journal.proofs.Releases.{records_take, keeps_behind}
use Rattle.edit_text.specs.Recorded.{RecordedEdit}
use Rattle.feature_store.specs.Store.{FeatureMap, IsMap, snapshot}
use Rattle.tile_service.specs.Drafted.{DraftedView, IsDrafted}
use Rattle.tile_service.specs.After.{after, made}
use Rattle.cached_map.specs.Cached.{AreReadRight}
use Rattle.published_tiles.specs.Published.{ArePublished}
use Rattle.tile_service.specs.Publishing.{map_at, published, CanPublish, HasArea}
use Rattle.tile_service.specs.Service.{ServiceView, PublicationView, Publishes, ShowsEdits, IsUp, archive_of}
use Rattle.tile_service.specs.Stored.{Stored, Holds, HasBytes, HasEarlierRoot, IsMapArchive, Keeps}
use Rattle.tile_service.specs.Stored.{map_of, last_of, root_of, CanRecord, record_for, stored_records, with_edit, journal_ring, journal_start}
use Rattle.tile_service.specs.Tiles.{WereMaps}
use Rattle.tile_service.proofs.Edits.JournalAppend.{records_with}
use Rattle.tile_service.proofs.Publications.AfterWrites.{same_ring, live_can}

-- ---- the journal from a later start on

places_split : (records : List RecordData) (taken : ℕ) → places_of (drop taken records) + places_of (take taken records) ≡ places_of records
places_split records zero = omega arith
places_split [] (suc taken) = omega arith
places_split (r ∷ records) (suc taken) = omega (arith, places_split records taken)

first_records : (records : List RecordData) (taken : ℕ) → AreRecords records → AreRecords (take taken records)
first_records records zero are = tt
first_records [] (suc taken) are = tt
first_records (r ∷ records) (suc taken) are = (are.0, first_records records taken are.1)

-- An image that holds records holds those after the first ones, from the place after those on.
pub holds_later : (ring : Ring) (place edits taken : ℕ) (records : List RecordData) (image : Image) → place < ring.places → taken ≤ length records
    → HoldsOnly ring (record { place = place; number = suc edits }) records image
    → HoldsOnly ring (record { place = (place + places_of (take taken records)) % ring.places; number = suc (edits + taken) })
    (drop taken records) image
holds_later ring place edits taken records image begins le holds =
    (keeps_behind ring place edits (places_of records) (edits + length records) records (begun image) now begins holds.records.room
    (places_of (take taken records)) (places_of (drop taken records)) ((place + places_of (take taken records)) % ring.places) (edits + taken) taken
    (places_split records taken) takes refl le refl refl).keeps image (λ at. refl)
  where
    now : KeepsRecords ring place edits (places_of records) (edits + length records) records (begun image)
    now = record {
      keeps = λ other may. subst (λ (i : Image). HoldsOnly ring (record { place = place; number = suc edits }) records i)
          (λ i at. sym (may at) i) holds;
      uses = refl;
      counts = refl;
    }

    takes : MayTake (edits + taken - edits) (places_of (take taken records))
    takes =
        let count : length (take taken records) ≡ edits + taken - edits = omega (arith, length-take taken records, le) in
        subst (λ (k : ℕ). MayTake k (places_of (take taken records))) count
        (records_take (take taken records) (first_records records taken holds.records.lengths))

-- ---- the next root in its sector

module _ (count n : ℕ) (stored : Stored) (taken : ℕ) (archive : List ℕ) (can : CanPublish n stored taken archive)
    (before : Image) (holds : Holds count n stored before) where
  abbrev next : Stored
  next = published n stored taken archive

  format : IsFormat count (before 0) n
  format = (holds.sectors 0).format refl

  some_place : 0 < journal_sectors n
  some_place = omega (arith, (live_can count n stored before holds).journal)

  place_below : (root_of next).journal_at < journal_sectors n
  place_below = mod_below (stored.journal_at + places_of (take taken (stored_records stored))) (journal_sectors n) some_place

  numbers : AreNumbers (root_of next)
  numbers = record {
    generation = can.generation;
    edits = omega (arith, holds.journal.records.numbers, length-map stored.since record_for, can.within);
    journal_at = omega (arith, place_below, format.size.1);
    snapshot_len = omega (arith, can.is_map.short);
    archive_len = omega (arith, can.area, format.size.1);
  }

  -- It has a root of a later generation than any other.
  pub next_root : IsRootOf n (suc stored.generation % 2) (root_sector (root_of next)) (root_of next)
  next_root = record {
    stands = record { bytes = refl; numbers = numbers };
    parity_is = refl;
    can = record { journal = place_below; area = can.area };
  }

  module _ (area : HasArea n (suc stored.generation) (snapshot (map_at stored taken)) archive before) (image : Image)
      (with_root : WithRoot (root_of next) before image) where
    -- after the sectors of the roots the image is the one before
    bytes_stay : (first at : ℕ) (bytes : List ℕ) → 3 ≤ first → HasBytes first bytes at (before at) → HasBytes first bytes at (image at)
    bytes_stay first at bytes behind stands index is =
        subst (λ (s : List ℕ). take (length (sector_piece bytes index)) s ≡ sector_piece bytes index)
        (sym (with_root.others at (λ root. omega (arith, behind, is, root)))) (stands index is)

    next_live : (at : ℕ) → at ≡ 1 + suc stored.generation % 2 → IsRootOf n (suc stored.generation % 2) (image at) (root_of next)
    next_live at is = subst (λ (s : List ℕ). IsRootOf n (suc stored.generation % 2) s (root_of next))
        (sym (subst (λ (i : ℕ). image i ≡ root_sector (root_of next)) (sym is) with_root.stands)) next_root

    earlier : (at : ℕ) → at ≡ 1 + suc (suc stored.generation) % 2 → HasEarlierRoot n (suc stored.generation) (image at)
    earlier at is =
        let same : stored.generation % 2 ≡ suc (suc stored.generation) % 2 = omega arith in
        let stays : image at ≡ before at = with_root.others at (λ root. omega (arith, is, root)) in
        inr (
          root_of stored,
          omega arith,
          subst (λ (p : ℕ). IsRootOf n p (image at) (root_of stored)) same
              (subst (λ (s : List ℕ). IsRootOf n (stored.generation % 2) s (root_of stored)) (sym stays)
              ((holds.sectors at).live (omega (arith, is, same)))),
        )

    journal : HoldsOnly (journal_ring n) (journal_start next) (stored_records next) image
    journal = subst (λ (records : List RecordData). HoldsOnly (journal_ring n) (journal_start next) records image)
        (drop-map record_for taken stored.since)
        (holds_later (journal_ring n) stored.journal_at stored.edits taken (stored_records stored) image (live_can count n stored before holds).journal
        (omega (arith, can.within, length-map stored.since record_for))
        (same_ring (journal_ring n) (journal_start stored) (stored_records stored) before image some_place
        (λ at inside. with_root.others at (λ root. omega (arith, inside.0, root))) holds.journal))

    -- With the area written before it, the image holds what is published.
    pub installed_holds : Holds count n next image
    installed_holds = record {
      sectors = λ at. record {
        version = λ is. subst (λ (s : List ℕ). version_from s ≡ stored.version) (sym (with_root.others at (λ root. omega (arith, is, root))))
            ((holds.sectors at).version is);
        format = λ is. subst (λ (s : List ℕ). IsFormat count s n) (sym (with_root.others at (λ root. omega (arith, is, root)))) ((holds.sectors at).format is);
        live = next_live at;
        other = earlier at;
        snapshot_bytes = bytes_stay (area_start n (suc stored.generation)) at (snapshot (map_at stored taken)) (omega arith) (area.snapshot_stands at);
        archive_bytes = bytes_stay (area_start n (suc stored.generation) + sectors_of (length (snapshot (map_at stored taken)))) at archive (omega arith)
            (area.archive_stands at);
      };
      journal = journal;
      is_map = can.is_map;
      are_edits = All-drop (CanRecord stored.version) taken stored.since holds.are_edits;
      is_archive = can.is_archive;
    }

-- ---- the installation

module _ (count n : ℕ) (stored : Stored) (taken : ℕ) (archive : List ℕ) (can : CanPublish n stored taken archive) (old new : History)
    (keeps : Keeps count n stored old) (area : HasArea n (suc stored.generation) (snapshot (map_at stored taken)) archive (seen old)) where
  with_next : (image : Image) → WithRoot (root_of (published n stored taken archive)) (seen old) image → Holds count n (published n stored taken archive) image
  with_next image with_root =
      installed_holds count n stored taken archive can (seen old) (keeps (seen old) (seen_is_left old)) area image with_root

  -- A crash at any moment of it leaves what was stored, or what is published.
  pub install_leaves : LeavesOnly old new (Installs (root_of (published n stored taken archive)) old)
      → LeavesOnly old new (λ image. Holds count n stored image ⊎ Holds count n (published n stored taken archive) image)
  install_leaves leaves = weaken old new (Installs (root_of (published n stored taken archive)) old)
      (λ image. Holds count n stored image ⊎ Holds count n (published n stored taken archive) image) leaves
      (λ image. ⊎_elim (λ (before : MayLeave old image). inl (keeps image before))
      (λ (is : WithRoot (root_of (published n stored taken archive)) (seen old) image). inr (with_next image is)))

  -- Once it is done, whatever a crash leaves holds what is published.
  pub installed_keeps : new ≡ synced (wrote (root_at (suc stored.generation)) (root_sector (root_of (published n stored taken archive))) (synced old))
      → Keeps count n (published n stored taken archive) new
  installed_keeps is image may = with_next image (installed_image (root_of (published n stored taken archive)) old new is image may)

  -- The same by the clause of an installation that succeeded.
  pub install_keeps : {E : Type 0} (result : Result (Unit {0}) E)
      → OnOk result (new ≡ synced (wrote (root_at (suc stored.generation)) (root_sector (root_of (published n stored taken archive))) (synced old)))
      → OnOk result (Keeps count n (published n stored taken archive) new)
  install_keeps (Ok done) is = installed_keeps is
  install_keeps (Err fault) is = tt

-- ---- edits while a publication is under way

module _ (n : ℕ) (stored : Stored) (taken : ℕ) (archive : List ℕ) (edit : RecordedEdit) (within : taken ≤ length stored.since) where
  -- The map that is published stays the same.
  pub map_stays : map_at (with_edit stored edit) taken ≡ map_at stored taken
  map_stays = ap (λ (edits : List RecordedEdit). after stored.snapshot_map edits) (take-append-le taken stored.since (edit ∷ []) within)

  pub records_stay : take taken (stored_records (with_edit stored edit)) ≡ take taken (stored_records stored)
  records_stay = ap (take taken) (records_with stored edit)
      ∙ take-append-le taken (stored_records stored) (record_for edit ∷ []) (omega (arith, within, length-map stored.since record_for))

  -- So it is still one that can be published,
  pub can_still : CanPublish n stored taken archive → CanPublish n (with_edit stored edit) taken archive
  can_still can = record {
    within = omega (arith, within, length-append stored.since (edit ∷ []));
    is_map = subst IsMap (sym map_stays) can.is_map;
    is_archive = subst (λ (m : FeatureMap). IsMapArchive m archive) (sym map_stays) can.is_archive;
    area = subst (λ (m : FeatureMap). sectors_of (length (snapshot m)) + sectors_of (length archive) ≤ area_sectors n) (sym map_stays) can.area;
    generation = can.generation;
  }

  -- and the edit is then one of those since.
  pub published_stays : published n (with_edit stored edit) taken archive ≡ with_edit (published n stored taken archive) edit
  published_stays = λ i. record {
    version = stored.version;
    generation = suc stored.generation;
    snapshot_map = map_stays i;
    edits = stored.edits + taken;
    since = drop-append-le taken stored.since (edit ∷ []) within i;
    journal_at = (stored.journal_at + places_of (records_stay i)) % journal_sectors n;
    archive = archive;
  }

-- ---- the service that continues from it

-- The map after all edits is what is published, where all are taken.
pub all_taken : (stored : Stored) → map_at stored (length stored.since) ≡ map_of stored
all_taken stored = ap (λ (edits : List RecordedEdit). after stored.snapshot_map edits) (take_all (length stored.since) stored.since (omega arith))

after_both : (m : FeatureMap) (edits : List RecordedEdit) (taken : ℕ) → after (after m (take taken edits)) (drop taken edits) ≡ after m edits
after_both m edits zero = refl
after_both m [] (suc taken) = refl
after_both m (edit ∷ edits) (suc taken) = after_both (made m edit) edits taken

module _ (n : ℕ) (stored : Stored) (taken : ℕ) (archive : List ℕ) (within : taken ≤ length stored.since) where
  -- It represents the same map
  pub same_map : map_of (published n stored taken archive) ≡ map_of stored
  same_map = after_both stored.snapshot_map stored.since taken

  -- and the same last number.
  pub same_last : last_of (published n stored taken archive) ≡ last_of stored
  same_last = omega (arith, within, length-drop taken stored.since)

  -- A service with the records after the published ones continues from it.
  pub up_published : {D : Type 0} (count : ℕ) (h : History) (service : ServiceView D) → service.size ≡ n
      → Keeps count n (published n stored taken archive) h → service.broken ≡ false → service.version ≡ stored.version
      → service.generation ≡ suc stored.generation → service.features ≡ map_of stored → service.journal.place ≡ (published n stored taken archive).journal_at
      → service.journal.edits ≡ stored.edits + taken → ring_of service.journal ≡ journal_ring service.size
      → service.journal.used + places_of (take taken (stored_records stored)) ≡ places_of (stored_records stored)
      → service.journal.last ≡ last_of stored → service.snapshot_len ≡ length (snapshot (map_at stored taken))
      → service.archive_len ≡ length archive → service.publication ≡ None → service.drafting ≡ None
      → WereMaps service.features service.touched service.journal.last (stored.edits + taken) (map_at stored taken) (drop taken stored.since)
      → ArePublished service.published (archive_of service) archive → AreReadRight service.features service.touched service.journal.last service.kept
      → (older : List RecordedEdit) → ShowsEdits h service (older ++ stored.since) → IsUp count h (published n stored taken archive) service
  up_published count h service size keeps unbroken version generation features place edits ring used last snapshot_ archive_ publication undrafted were archived
      reads older shows = record {
        keeps = subst (λ (k : ℕ). Keeps count k (published n stored taken archive) h) (sym size) keeps;
        unbroken = unbroken;
        version_is = version;
        generation_is = generation;
        map_is = features ∙ sym same_map;
        place_is = place;
        edits_are = edits;
        used_is = left ∙ ap places_of (drop-map record_for taken stored.since);
        ring_is = ring;
        last_is = last ∙ sym same_last;
        snapshot_len_is = snapshot_;
        archive_len_is = archive_;
        publication = subst (λ (o : Option PublicationView). IfSome o (Publishes service.size (published n stored taken archive) h)) (sym publication) tt;
        drafting = subst (λ (o : Option DraftedView). IfSome o (IsDrafted service.size (published n stored taken archive))) (sym undrafted) tt;
        were = were;
        archived = archived;
        reads = reads;
        older = older ++ take taken stored.since;
        shows = subst (ShowsEdits h service) (ap (λ (l : List RecordedEdit). older ++ l) (sym (take-append-drop taken stored.since))
            ∙ sym (append_assoc older (take taken stored.since) (drop taken stored.since))) shows;
      }
    where
      left : service.journal.used ≡ places_of (drop taken (stored_records stored))
      left = omega (arith, used, places_split (stored_records stored) taken)
