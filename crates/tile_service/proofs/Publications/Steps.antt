-- The beginning of a publication, its steps and its end.
use Rattle.std.proofs.Common.{◌≡◌, ◌≢◌, ◌⊎◌, inl, inr, ⊎_elim, ◌<◌, ◌≤◌, ◌+◌, ◌-◌, ◌^◌, ◌%◌, ℕ, zero, suc, false, true, List, ◌++◌, length, take, drop}
use Rattle.std.proofs.Common.{Result, Ok, Err, OnOk, Some, refl, sym, ◌∙◌, ap, subst, arith}
use Rattle.std.proofs.lemmas.Bool.{false≢true}
use Rattle.std.proofs.lemmas.List.{length-map, take_all}
use Rattle.std.proofs.lemmas.Str.{IsUtf8-string_bytes}
use Rattle.std.specs.Prelude.{Option, None, IsSome, IfSome, IfOk, IfErr, OnErr, option_map, string_bytes}
use Rattle.std.specs.Option.{is_some}
use Rattle.std.specs.declared.string.String.{String}
use Rattle.std.specs.declared.alloc.Global.{Global}
use Rattle.sector_disk.specs.Asked.{TellsFailure}
use Rattle.sector_disk.specs.Disk.{History, seen}
use Rattle.sector_disk.specs.Disk.History.{wrote, synced}
use Rattle.sector_disk.specs.Moments.{LeavesOnly}
use Rattle.sector_disk.proofs.History.{then_leaves, weaken}
use Rattle.generations.specs.Areas.{journal_sectors, area_sectors}
use Rattle.generations.specs.Installs.{root_at, Installs}
use Rattle.generations.specs.Sectors.{root_sector}
use Rattle.generations.specs.declared.root.Root.{Root}
use Rattle.edit_journal.specs.Appends.{ring_of}
use Rattle.edit_journal.specs.Ring.{Ring, IsInRing, places_of}
use Rattle.edit_journal.specs.declared.journal.Journal.{Journal}
use Rattle.area_content.specs.Content.{sectors_taken}
use Rattle.area_content.specs.Faults.{IsBuiltFor}
use Rattle.cached_map.specs.Cached.{CachedView, AreReadRight}
use Rattle.edit_text.specs.Recorded.{RecordedEdit}
use Rattle.feature_store.specs.Moments.{MomentView}
use Rattle.feature_store.specs.Store.{FeatureMap, IsMap, snapshot}
use Rattle.map_metadata.specs.Metadata.{IsMetadataOf}
use Rattle.pm_metadata.specs.Archive.{IsMetadata as IsMetadataText}
use Rattle.published_tiles.specs.Published.{PublishedView, ArePublished}
use Rattle.published_tiles.proofs.PublishedLaws.{published_next}
use Rattle.serde_json.specs.Read.{read}
use Rattle.serde_json.specs.Written.{compact_text}
use Rattle.tile_cache.specs.Kept.{CacheView}
use Rattle.tile_service.specs.Machine.{ServiceState, step, Begins, CanBegin, IsPublishable, BeginFault, Refuses, AnswersStep, HasPublication, after_install}
use Rattle.tile_service.specs.Publishing.{HasNoContent, map_at, published, CanPublish, HasFirst, HasArea, IsUnderWay}
use Rattle.tile_service.specs.Service.{IsGoing, IsService, TellsDevice}
use Rattle.tile_service.specs.Service.{PublicationView, ServiceView, Known, Publishes, ShowsEdits, IsUp, EventLeaves, count_at, left_of, archive_of}
use Rattle.tile_service.specs.Service.{going_of, state_of, known_after, known_installed, installed, stored_after, with_publication}
use Rattle.tile_service.specs.Stored.{Stored, Holds, IsMapArchive, Keeps, root_of, journal_ring, record_for, stored_records}
use Rattle.tile_service.specs.Tiles.{WereMaps}
use Rattle.tile_service.specs.declared.drafting.Draft.{Draft}
use Rattle.tile_service.specs.declared.fault.ServiceFault.{ServiceFault}
use Rattle.tile_service.specs.declared.fault.ServiceFault.TheVariants.{Memory, TooManyTiles, AreaFull, Device}
use Rattle.tile_service.specs.declared.metadata_steps.MapMetadata.{MapMetadata}
use Rattle.tile_service.specs.declared.publishing.TheConstants.{STEP_SECTORS}
use Rattle.tile_service.proofs.Archive.Read.{up_moved}
use Rattle.tile_service.proofs.Tiles.EarlierMaps.{were_published}
use Rattle.tile_service.proofs.Publications.Installed.{all_taken, install_leaves, installed_keeps, up_published}
use Rattle.tile_service.proofs.Publications.DuringEdits.{begins, all_written}

-- ---- what is invariant

-- A service on another disk with as many sectors has the invariants as before,
pub service_on_disk : {sectors now size version : ℕ} {root : Root} {journal kept_journal : Journal} {map : CachedView} {publication : Option PublicationView}
    {known : Option MapMetadata} {moment : Option MomentView} {draft : Option Draft} → now ≡ sectors
    → IsService sectors size version root journal kept_journal map publication known moment draft
    → IsService now size version root journal kept_journal map publication known moment draft
service_on_disk {size = size} {version} {root} {journal} {kept_journal} {map} {publication} {known} {moment} {draft} same is =
    subst (λ (n : ℕ). IsService n size version root journal kept_journal map publication known moment draft) (sym same) is

-- and one with another publication under way if that is going,
pub service_with : {sectors size version : ℕ} {root : Root} {journal kept_journal : Journal} {map : CachedView} {publication : Option PublicationView}
    {known : Option MapMetadata} {moment : Option MomentView} {draft : Option Draft} (later : Option PublicationView)
    → IfSome later (IsGoing size root journal map.features)
    → IsService sectors size version root journal kept_journal map publication known moment draft
    → IsService sectors size version root journal kept_journal map later known moment draft
service_with later going is = record {
  within = is.within;
  version_is = is.version_is;
  ring = is.ring;
  area = is.area;
  texts = is.texts;
  counted = is.counted;
  last_is = is.last_is;
  back = is.back;
  going = going;
  told = is.told;
  as_of = is.as_of;
  drafts = is.drafts;
}

-- or without one.
pub service_idle : {sectors size version : ℕ} {root : Root} {journal kept_journal : Journal} {map : CachedView} {publication : Option PublicationView}
    {known : Option MapMetadata} {moment : Option MomentView} {draft : Option Draft} (later : Option PublicationView) → later ≡ None
    → IsService sectors size version root journal kept_journal map publication known moment draft
    → IsService sectors size version root journal kept_journal map later known moment draft
service_idle {size = size} {root = root} {journal} {map = map} later none is =
    service_with later (subst (λ (o : Option PublicationView). IfSome o (IsGoing size root journal map.features)) (sym none) tt) is

-- A publication is going on under a root of this service's generation.
abbrev pub GoesUnder : {D : Type 0} → ServiceView D → PublicationView → Type 0
GoesUnder service p = (root : Root) × (root.generation ≡ service.generation) × IsGoing service.size root service.journal service.features p

-- It is so of what is seen of both, if it is so of what they are.
pub going_seen : {D : Type 0} (service seen : ServiceView D) (p part : PublicationView) → seen ≡ service → part ≡ p → GoesUnder service p
    → GoesUnder seen part
going_seen {D} service seen p part same is going =
    subst (λ (s : ServiceView D). GoesUnder s part) (sym same) (subst (GoesUnder service) (sym is) going)

-- With this much written it is going on too, under any root of that generation.
pub going_further : {size : ℕ} {root : Root} {journal : Journal} {features : FeatureMap} (now : Root) (p : PublicationView) (written : ℕ)
    → root.generation ≡ now.generation → written ≤ sectors_taken p.content → IsGoing size root journal features p
    → IsGoing size now journal features (record p { written = written })
going_further now p written same within is = record {
  behind = is.behind;
  area = is.area;
  written = within;
  generation = omega (arith, is.generation, same);
  texts = is.texts;
}

-- ---- what a step answers

-- A step that fails only for the disk says by its fault whether a call of the disk has failed,
pub tells_device : {T : Type 0} (result : Result T ServiceFault) (old new : ℕ) → IfErr result (λ fault. fault ≡ Device) → TellsFailure result old new
    → TellsDevice result old new
tells_device (Ok told) old new is failed = failed
tells_device (Err fault) old new is failed = inl (is, failed)

-- and answers no other fault.
pub no_other_fault : {T : Type 0} (result : Result T ServiceFault) (Then : Type 0) → IfErr result (λ fault. fault ≡ Device)
    → IfErr result (λ fault. fault ≢ Device → Then)
no_other_fault (Ok told) Then is = tt
no_other_fault (Err fault) Then is = λ other. absurd (other is)

-- ---- the content

-- The metadata of a map are metadata of an archive.
pub metadata_is_text : (m : FeatureMap) (text : String Global) → IsMetadataOf m (string_bytes text) → IsMetadataText (string_bytes text)
metadata_is_text m text (d, (ls, are, is), same, reads) = (IsUtf8-string_bytes text, (_, reads ∙ ap Some is))

-- An archive that is built with this text as its metadata is publishable.
pub publishable : (m : FeatureMap) (text archive : List ℕ) → IsMetadataOf m text → IsBuiltFor m text archive → IsPublishable m archive
publishable m text archive (d, is, same, reads) built = record {
  metadata = d;
  is_metadata = is;
  reads = subst (λ (bytes : List ℕ). read bytes ≡ Some d) same reads;
  built = subst (λ (bytes : List ℕ). IsBuiltFor m bytes archive) same built;
}

-- A publishable archive is one of the map.
pub archive_of_publishable : (m : FeatureMap) (archive : List ℕ) → IsPublishable m archive → IsMapArchive m archive
archive_of_publishable m archive is = inr (compact_text is.metadata, (is.metadata, is.is_metadata, is.reads), is.built.of_map)

-- ---- its beginning and its end

module _ {D : Type 0} (sectors : ℕ) (h : History) (stored : Stored) (service : ServiceView D) (up : IsUp sectors h stored service) where
  -- A service with another publication continues from what is stored, if the publication is one of that.
  pub up_with : (p : Option PublicationView) → IfSome p (Publishes service.size stored h) → IsUp sectors h stored (record service { publication = p })
  up_with p publishes = up_moved sectors h stored service up service.disk p service.published service.kept sectors h up.keeps publishes
      up.archived up.reads (λ at inside. refl)

  module _ (p : PublicationView) (is_map : IsMap service.features) (is_archive : IsMapArchive service.features p.content.archive)
      (text : p.content.snapshot ≡ snapshot service.features) (area : sectors_taken p.content ≤ area_sectors service.size)
      (generation : service.generation < 2 ^ 64 - 1) (ring : ring_of service.journal ≡ journal_ring service.size)
      (place : p.start.place ≡ (service.journal.place + service.journal.used) % service.journal.places)
      (edits : p.start.edits ≡ service.journal.last) (places : p.places ≡ service.journal.used) where
    abbrev count : ℕ
    count = count_at stored p

    count_is : count ≡ length stored.since
    count_is = omega (arith, edits, up.last_is)

    map : map_at stored count ≡ service.features
    map = ap (map_at stored) count_is ∙ all_taken stored ∙ sym up.map_is

    used : service.journal.used ≡ places_of (take count (stored_records stored))
    used = up.used_is ∙ ap places_of (sym (take_all count (stored_records stored) (omega (arith, count_is, length-map stored.since record_for))))

    can : CanPublish service.size stored count p.content.archive
    can = record {
      within = omega (arith, count_is);
      is_map = subst IsMap (sym map) is_map;
      is_archive = subst (λ (m : FeatureMap). IsMapArchive m p.content.archive) (sym map) is_archive;
      area = omega (arith, area, ap length text, ap (λ (m : FeatureMap). length (snapshot m)) map);
      generation = omega (arith, generation, up.generation_is);
    }

    -- A publication that begins is one of the map after all edits.
    pub begins_publishing : p.written ≡ 0 → Publishes service.size stored h p
    begins_publishing none = record {
      later = omega (arith, edits, up.last_is);
      under_way = subst (λ (w : ℕ). IsUnderWay service.size stored count p.content.archive w h) (sym none)
          (begins service.size stored count p.content.archive h can);
      snapshot_is = text ∙ ap snapshot (sym map);
      place_is = place ∙ (λ i. (up.place_is i + used i) % (ap (λ (r : Ring). r.places) ring) i);
      places_are = places ∙ used;
    }

-- What the machine says of its beginning.
pub begins_told : {D : Type 0} (known : Known) (service : ServiceView D) (p : PublicationView) (told : ℕ) → service.broken ≡ false
    → service.publication ≡ None → service.generation < 2 ^ 64 - 1 → IsPublishable service.features p.content.archive
    → p.content.snapshot ≡ snapshot service.features → sectors_taken p.content ≤ area_sectors service.size
    → ring_of service.journal ≡ journal_ring service.size → p.start.edits ≡ service.journal.last → p.places ≡ service.journal.used → p.written ≡ 0
    → told ≡ sectors_taken p.content + 1
    → Begins (state_of known service) told (state_of (record known { publishing = service.features }) (record service { publication = Some p }))
begins_told known service p told unbroken none generation is_archive text area ring edits places written told_is = record {
  unbroken = unbroken;
  can = record { none = ap (option_map (going_of known.publishing)) none; generation = generation };
  archive = p.content.archive;
  is_archive = is_archive;
  room = omega (arith, area, ap length text);
  told_is = omega (arith, told_is, ap length text);
  begun = λ i. record (state_of known service) {
    publication = Some (record {
      archive = record { bytes = p.content.archive; features = service.features };
      last = edits i;
      places = used i;
      left = left_is i;
    });
  };
}
  where
    used : p.places ≡ journal_sectors service.size - (service.journal.places - service.journal.used)
    used = omega (arith, places, ap (λ (r : Ring). r.places) ring, service.journal.room)

    left_is : left_of p ≡ told
    left_is = omega (arith, written, told_is)

-- A beginning that finds no content is refused by the machine.
pub begin_refused : (s : ServiceState) (fault : ServiceFault) → s.broken ≡ false → CanBegin s → HasNoContent s.features (area_sectors s.size) fault
    → Refuses (BeginFault s fault) s fault s
begin_refused s Memory unbroken may has = (unbroken, may, refl)
begin_refused s TooManyTiles unbroken may has = (unbroken, (may, has), refl)
begin_refused s (AreaFull need free) unbroken may has = (unbroken, (may, has), refl)
begin_refused s fault unbroken may has = absurd has

-- Where a test finds nothing there is none,
pub none_there : {A : Type 0} (o : Option A) → is_some o ≡ false → o ≡ None
none_there None none = refl
none_there (Some a) none = absurd (false≢true (sym none))

-- and where it finds something that is there still after a function.
pub still_there : {A B : Type 0} (f : A → B) (o : Option A) → is_some o ≡ true → IsSome (option_map f o)
still_there f None is = absurd (false≢true is)
still_there f (Some a) is = refl

-- ---- its installation

module _ {D : Type 0} (sectors : ℕ) (old : History) (stored : Stored) (service : ServiceView D) (p : PublicationView)
    (up : IsUp sectors old stored (with_publication service p)) where
  abbrev next : Stored
  next = published service.size stored (count_at stored p) p.content.archive

  going : Publishes service.size stored old p
  going = up.publication

  -- the root that names it
  pub next_root_is : (root : Root) → root.generation ≡ service.generation + 1 → root.edits ≡ p.start.edits → root.journal_at ≡ p.start.place
      → root.snapshot_len ≡ length p.content.snapshot → root.archive_len ≡ length p.content.archive → root ≡ root_of next
  next_root_is root generation edits place text archive = λ i. record {
    generation = generation_is i;
    edits = edits_are i;
    journal_at = (place ∙ going.place_is) i;
    snapshot_len = (text ∙ ap length going.snapshot_is) i;
    archive_len = archive i;
  }
    where
      generation_is : root.generation ≡ suc stored.generation
      generation_is = omega (arith, generation, up.generation_is)

      edits_are : root.edits ≡ stored.edits + count_at stored p
      edits_are = omega (arith, edits, going.later)

  module _ (written : p.written ≡ sectors_taken p.content) (root : Root) (root_is : root ≡ root_of next) (new : History) where
    area_stands : HasArea service.size (suc stored.generation) (snapshot (map_at stored (count_at stored p))) p.content.archive (seen old)
    area_stands = all_written service.size stored (count_at stored p) p.content.archive p.written old
        (omega (arith, written, ap length going.snapshot_is)) going.under_way

    -- A crash at any moment of the installation leaves what was stored, or what is published.
    pub installing_leaves : LeavesOnly old new (Installs root old)
        → LeavesOnly old new (λ image. Holds sectors service.size stored image ⊎ Holds sectors service.size next image)
    installing_leaves leaves = install_leaves sectors service.size stored (count_at stored p) p.content.archive going.under_way.can old new up.keeps
        area_stands (subst (λ (r : Root). LeavesOnly old new (Installs r old)) root_is leaves)

    -- After it the service continues from what is published.
    pub up_installed : (count : ℕ) (after : ServiceView D) → count ≡ sectors
        → new ≡ synced (wrote (root_at root.generation) (root_sector root) (synced old)) → after.size ≡ service.size
        → after.broken ≡ service.broken → after.version ≡ service.version → after.generation ≡ service.generation + 1 → after.features ≡ service.features
        → after.journal.place ≡ p.start.place → after.journal.edits ≡ p.start.edits → ring_of after.journal ≡ ring_of service.journal
        → after.journal.used + p.places ≡ service.journal.used → after.journal.last ≡ service.journal.last
        → after.snapshot_len ≡ length p.content.snapshot → after.archive_len ≡ length p.content.archive → after.publication ≡ None → after.drafting ≡ None
        → after.touched ≡ service.touched → after.published ≡ service.published → after.kept ≡ service.kept
        → ShowsEdits new after (up.older ++ stored.since) → IsUp count new next after
    up_installed count after same is size broken version generation features place edits ring freed last text archive none undrafted touched published_is kept
        shows =
        subst (λ (k : ℕ). IsUp k new next after) (sym same)
        (up_published service.size stored (count_at stored p) p.content.archive going.under_way.can.within sectors new after size
        (installed_keeps sectors service.size stored (count_at stored p) p.content.archive going.under_way.can old new up.keeps area_stands
        (subst (λ (r : Root). new ≡ synced (wrote (root_at r.generation) (root_sector r) (synced old))) root_is is))
        (broken ∙ up.unbroken) (version ∙ up.version_is) (omega (arith, generation, up.generation_is)) (features ∙ up.map_is) (place ∙ going.place_is)
        (omega (arith, edits, going.later)) (ring ∙ up.ring_is ∙ sym (ap journal_ring size))
        (omega (arith, freed, going.places_are, up.used_is)) (last ∙ up.last_is)
        (text ∙ ap length going.snapshot_is) archive none undrafted were archived reads up.older shows)
      where
        map : FeatureMap
        map = map_at stored (count_at stored p)

        start : ℕ
        start = stored.edits + count_at stored p

        rest : List RecordedEdit
        rest = drop (count_at stored p) stored.since

        were : WereMaps after.features after.touched after.journal.last start map rest
        were = subst (λ (m : FeatureMap). WereMaps m after.touched after.journal.last start map rest) (sym features)
            (subst (λ (cells : List ℕ). WereMaps service.features cells after.journal.last start map rest) (sym touched)
            (subst (λ (n : ℕ). WereMaps service.features service.touched n start map rest) (sym last)
            (were_published service.features service.touched service.journal.last stored.edits stored.snapshot_map stored.since (count_at stored p)
            going.under_way.can.within up.were)))

        archived : ArePublished after.published (archive_of after) p.content.archive
        archived = subst (λ (t : PublishedView). ArePublished t (archive_of after) p.content.archive) (sym published_is)
            (published_next service.published (archive_of service) (archive_of after) stored.archive p.content.archive up.archived
            (omega (arith, generation)))

        reads : AreReadRight after.features after.touched after.journal.last after.kept
        reads = subst (λ (m : FeatureMap). AreReadRight m after.touched after.journal.last after.kept) (sym features)
            (subst (λ (cells : List ℕ). AreReadRight service.features cells after.journal.last after.kept) (sym touched)
            (subst (λ (n : ℕ). AreReadRight service.features service.touched n after.kept) (sym last)
            (subst (λ (kept : CacheView). AreReadRight service.features service.touched service.journal.last kept) (sym kept) up.reads)))

-- ---- its steps

-- With more sectors written it is under way still.
pub up_further : {D : Type 0} (sectors count : ℕ) (old new : History) (stored : Stored) (service : ServiceView D) (p : PublicationView)
    (generation to : ℕ) (disk : D) → IsUp sectors old stored (with_publication service p) → count ≡ sectors → generation ≡ service.generation + 1
    → Keeps sectors service.size stored new
    → (HasFirst service.size generation p.content.snapshot p.content.archive p.written (seen old)
    → HasFirst service.size generation p.content.snapshot p.content.archive to (seen new))
    → ((at : ℕ) → IsInRing (ring_of service.journal) at → seen new at ≡ seen old at)
    → IsUp count new stored (with_publication (record service { disk = disk }) (record p { written = to }))
up_further sectors count old new stored service p generation to disk up same next keeps more reads =
    up_moved sectors old stored (with_publication service p) up disk (Some (record p { written = to })) service.published service.kept count new
    (subst (λ (k : ℕ). Keeps k service.size stored new) (sym same) keeps) (record {
      later = was.later;
      under_way = record {
        can = was.under_way.can;
        first = subst (λ (g : ℕ). HasFirst service.size g texts p.content.archive to (seen new)) is
            (subst (λ (t : List ℕ). HasFirst service.size generation t p.content.archive to (seen new)) was.snapshot_is
            (more (subst (λ (t : List ℕ). HasFirst service.size generation t p.content.archive p.written (seen old)) (sym was.snapshot_is)
            (subst (λ (g : ℕ). HasFirst service.size g texts p.content.archive p.written (seen old)) (sym is) was.under_way.first))));
      };
      snapshot_is = was.snapshot_is;
      place_is = was.place_is;
      places_are = was.places_are;
    }) up.archived up.reads reads
  where
    was : Publishes service.size stored old p
    was = up.publication

    texts : List ℕ
    texts = snapshot (map_at stored (count_at stored p))

    is : generation ≡ suc stored.generation
    is = omega (arith, next, up.generation_is)

-- what is stored is of the generation before
pub next_is : {D : Type 0} (sectors : ℕ) (h : History) (stored : Stored) (service : ServiceView D) → IsUp sectors h stored service
    → (generation : ℕ) → generation ≡ service.generation + 1 → generation ≡ suc stored.generation
next_is sectors h stored service up generation is = omega (arith, is, up.generation_is)

module _ (sectors n : ℕ) (stored : Stored) (p : PublicationView) (old new : History) where
  -- A step that only writes into the area leaves what was stored.
  pub step_leaves : (outcome : Result ℕ ServiceFault) → LeavesOnly old new (Holds sectors n stored)
      → LeavesOnly old new (EventLeaves sectors n stored (Some p) (step outcome))
  step_leaves outcome leaves = weaken old new (Holds sectors n stored) (EventLeaves sectors n stored (Some p) (step outcome)) leaves (λ image is. inl is)

  may_install : (r : Result ℕ ServiceFault) → IfOk r (λ told. told ≡ 0) → IfErr r (λ fault. fault ≡ Device)
      → (r ≡ Ok 0) ⊎ (r ≡ Err Device)
  may_install (Ok told) is fault = inl (ap (λ (m : ℕ). Ok m) is)
  may_install (Err fault) is device = inr (ap (λ (f : ServiceFault). Err f) device)

  -- One that installs it leaves that, or what it installs.
  pub last_step_leaves : (between : History) (there : ℕ) (r : Result ℕ ServiceFault) → there ≡ sectors → IfOk r (λ told. told ≡ 0)
      → IfErr r (λ fault. fault ≡ Device) → left_of p ≤ STEP_SECTORS + 1 → LeavesOnly old between (Holds sectors n stored)
      → LeavesOnly between new (λ image. Holds there n stored image ⊎ Holds there n (installed n stored (Some p)) image)
      → LeavesOnly old new (EventLeaves sectors n stored (Some p) (step r))
  last_step_leaves between there r same told fault last first second =
      then_leaves old between new (EventLeaves sectors n stored (Some p) (step r))
      (weaken old between (Holds sectors n stored) (EventLeaves sectors n stored (Some p) (step r)) first (λ image is. inl is))
      (weaken between new (λ image. Holds sectors n stored image ⊎ Holds sectors n (installed n stored (Some p)) image)
      (EventLeaves sectors n stored (Some p) (step r))
      (subst (λ (k : ℕ). LeavesOnly between new (λ image. Holds k n stored image ⊎ Holds k n (installed n stored (Some p)) image)) same second)
      (λ image. ⊎_elim (λ (is : Holds sectors n stored image). inl is)
      (λ (is : Holds sectors n (installed n stored (Some p)) image). inr ((last, may_install r told fault), is))))

module _ {D : Type 0} (n : ℕ) (stored : Stored) (p : PublicationView) (sectors : ℕ) (h : History) (after : ServiceView D) where
  -- what continues after a step
  pub up_after_step : (told : ℕ) → 0 < told → IsUp sectors h stored after
      → IsUp sectors h (stored_after n stored (Some p) (step (Ok told))) after
  up_after_step zero pos up = absurd (omega (arith, pos))
  up_after_step (suc told) pos up = up

  pub up_after_last : (r : Result ℕ ServiceFault) → IfOk r (λ told. told ≡ 0) → OnOk r (IsUp sectors h (installed n stored (Some p)) after)
      → OnOk r (IsUp sectors h (stored_after n stored (Some p) (step r)) after)
  up_after_last (Ok told) is up =
      subst (λ (t : ℕ). IsUp sectors h (stored_after n stored (Some p) (step (Ok t))) after) (sym is) up
  up_after_last (Err fault) is up = tt

module _ {D : Type 0} (known : Known) (service : ServiceView D) (p : PublicationView) (unbroken : service.broken ≡ false) where
  abbrev was : ServiceView D
  was = with_publication service p

  abbrev under_way : HasPublication (state_of known was)
  under_way = record { unbroken = unbroken; publication = going_of known.publishing p; is = refl }

  -- What the machine says of a step with more to write,
  pub step_told : (to told : ℕ) (disk : D) → STEP_SECTORS + 1 < left_of p → told ≡ left_of p - STEP_SECTORS → to ≡ p.written + STEP_SECTORS
      → AnswersStep (state_of known was) (Ok told)
      (state_of (known_after known was (step (Ok told))) (with_publication (record service { disk = disk }) (record p { written = to })))
  step_told to zero disk more told_is to_is = absurd (omega (arith, more, told_is))
  step_told to (suc told) disk more told_is to_is = (
    under_way,
    inl (
      more,
      told_is,
      λ i. record (state_of known service) {
        publication = Some (record (going_of known.publishing p) { left = left_is i });
      },
    ),
  )
    where
      left_is : left_of (record p { written = to }) ≡ suc told
      left_is = omega (arith, more, told_is, to_is)

  -- of one that the disk fails, which breaks the service and ends the publication,
  pub step_fails : (disk : D) → service.publication ≡ None
      → AnswersStep (state_of known was) (Err Device) (state_of known (record service { disk = disk; broken = true }))
  step_fails disk none =
      (unbroken, under_way, λ i. record (state_of known service) { publication = option_map (going_of known.publishing) (none i); broken = true })

  -- and of the last one.
  pub last_step_told : (to : ℕ) (r : Result ℕ ServiceFault) (disk : D) (after : ServiceView D) → service.publication ≡ None
      → IfOk r (λ told. told ≡ 0) → IfErr r (λ fault. fault ≡ Device) → left_of p ≤ STEP_SECTORS + 1
      → OnErr r (after ≡ record service { disk = disk; broken = true })
      → OnOk r (state_of (known_installed known (Some (record p { written = to }))) after
      ≡ after_install (state_of known (with_publication service (record p { written = to }))) (going_of known.publishing (record p { written = to })))
      → AnswersStep (state_of known was) r (state_of (known_after known was (step r)) after)
  last_step_told to (Ok told) disk after none is fault last broken installs =
      subst (λ (t : ℕ). AnswersStep (state_of known was) (Ok t) (state_of (known_after known was (step (Ok t))) after)) (sym is)
      (under_way, inr (last, refl, installs))
  last_step_told to (Err fault) disk after none is device last broken installs =
      subst (λ (f : ServiceFault). AnswersStep (state_of known was) (Err f) (state_of known after)) (sym device)
      (subst (λ (s : ServiceView D). AnswersStep (state_of known was) (Err Device) (state_of known s)) (sym broken) (step_fails disk none))
