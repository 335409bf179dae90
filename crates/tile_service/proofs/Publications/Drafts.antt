-- A publication in the making: its beginning, and the publication that it becomes.
use Rattle.std.specs.Prelude.{Option, None, Some, IfSome}
use Rattle.std.proofs.Common.{◌≡◌, ◌≤◌, ◌<◌, ◌+◌, ◌-◌, ◌%◌, ◌^◌, ℕ, suc, List, ◌++◌, length, take, refl, sym, ap, subst, ◌∙◌, arith}
use Rattle.std.proofs.lemmas.Bool.{false≢true}
use Rattle.std.proofs.lemmas.List.{length-map, take_all}
use Rattle.std.specs.Option.{is_some}
use Rattle.sector_disk.specs.Disk.{History}
use Rattle.generations.specs.Areas.{area_sectors, sectors_of}
use Rattle.generations.specs.declared.root.Root.{Root}
use Rattle.edit_journal.specs.Ring.{Ring, places_of}
use Rattle.edit_journal.specs.declared.journal.Journal.{Journal}
use Rattle.area_content.specs.Content.{ContentView, sectors_taken}
use Rattle.area_content.specs.Faults.{IsContentFault, IsFull}
use Rattle.area_content.specs.declared.fault.ContentFault.{ContentFault}
use Rattle.area_content.specs.Drafts.{HasAdded}
use Rattle.area_content.specs.declared.draft.AddedTiles.{AddedTiles}
use Rattle.area_content.specs.declared.fault.ContentFault.TheVariants.{TooManyTiles, AreaFull, Memory}
use Rattle.map_metadata.specs.Metadata.{IsMetadataOf}
use Rattle.cached_map.specs.Cached.{CachedView}
use Rattle.feature_store.specs.Moments.{MomentView, IsMomentOf, moment_map}
use Rattle.feature_store.specs.Store.{FeatureMap, IsMap, snapshot}
use Rattle.tile_service.specs.Drafted.{DraftedView, count_of, IsDrafted}
use Rattle.tile_service.specs.Publishing.{map_at, CanPublish, HasNoContent, told_content}
use Rattle.tile_service.specs.Service.{PublicationView, ServiceView, IsUp, IsGoing, IsGoingDraft, IsContentOf, IsStage, IsOwn, Publishes, publication_of}
use Rattle.tile_service.specs.Service.{IsService, drafted_by, drafted_now, map_then}
use Rattle.tile_service.specs.Stored.{Stored, IsMapArchive, stored_records, record_for}
use Rattle.tile_service.specs.declared.drafting.Draft.{Draft}
use Rattle.tile_service.specs.declared.fault.ServiceFault.{ServiceFault}
use Rattle.tile_service.specs.declared.drafting.DraftStage.{DraftStage}
use Rattle.tile_service.specs.declared.drafting.DraftStage.TheVariants.{Reading, Going, Found, Refused}
use Rattle.tile_service.specs.declared.metadata_steps.MapMetadata.{MapMetadata}
use Rattle.tile_service.proofs.Edits.ShownEdits.{shows_on}
use Rattle.tile_service.proofs.Publications.DuringEdits.{begins}
use Rattle.tile_service.proofs.Publications.Installed.{all_taken}
use Rattle.tile_service.proofs.Publications.Steps.{archive_of_publishable, up_with}

-- What is in the making is so for its own area.
pub own_stage : (area : ℕ) (m : FeatureMap) (stage : DraftStage) → IsStage area m stage → IsOwn m stage
own_stage area m (Reading reading) is = record {
  map_is = is.map_is;
  metadata_is = is.metadata_is;
  area_is = λ i. reading.area;
  fits = subst (λ (n : ℕ). n < 2 ^ 23) (sym is.area_is) is.fits;
}
own_stage area m (Going content) is =
    record { map_is = is.map_is; area_is = λ i. content.area; metadata = is.metadata; going = is.going }
own_stage area m (Found content) is = tt
own_stage area m (Refused fault) is = tt

-- With its content it is under way, with nothing written, whatever edits came meanwhile.
pub drafted_publishes : (n : ℕ) (stored : Stored) (d : DraftedView) (content : ContentView) (h : History) → IsDrafted n stored d
    → IsMap d.features → IsMapArchive d.features content.archive → content.snapshot ≡ snapshot d.features → sectors_taken content ≤ area_sectors n
    → suc stored.generation < 2 ^ 64 → Publishes n stored h (publication_of d content)
drafted_publishes n stored d content h is is_map is_archive text area generation =
    let m = map_at stored (count_of stored d) in
    let can : CanPublish n stored (count_of stored d) content.archive = record {
      within = is.within;
      is_map = subst IsMap is.map_is is_map;
      is_archive = subst (λ (k : FeatureMap). IsMapArchive k content.archive) is.map_is is_archive;
      area = omega (arith, area, ap length text, ap (λ (k : FeatureMap). length (snapshot k)) is.map_is);
      generation = generation;
    } in
    record {
      later = is.later;
      under_way = begins n stored (count_of stored d) content.archive h can;
      snapshot_is = text ∙ ap snapshot is.map_is;
      place_is = is.place_is;
      places_are = is.places_are;
    }

-- A map for whose content there is a fault has no content.
told_fault : (m : FeatureMap) (area : ℕ) (metadata : List ℕ) (fault : ContentFault) → IsMetadataOf m metadata → IsContentFault m metadata area fault
    → HasNoContent m area (told_content fault)
told_fault m area metadata TooManyTiles text is = is
told_fault m area metadata (AreaFull need free) (d, are, same, reads) is = (d, are, subst (λ (t : List ℕ). IsFull m t area need free) same is)
told_fault m area metadata Memory text is = tt

pub told_of : (m : FeatureMap) (area : ℕ) (metadata : List ℕ) (fault : ContentFault) (told : ServiceFault) → told ≡ told_content fault
    → IsMetadataOf m metadata → IsContentFault m metadata area fault → HasNoContent m area told
told_of m area metadata fault told same text is = subst (HasNoContent m area) (sym same) (told_fault m area metadata fault text is)

-- It has the invariants of a publication under way.
pub draft_goes : (size : ℕ) (root : Root) (journal : Journal) (features m : FeatureMap) (d : Draft) (content : ContentView)
    → IsGoingDraft size root journal features m d → IsContentOf (area_sectors size) m content
    → IsGoing size root journal features (record { content = content; start = d.start; places = d.places; written = 0 })
draft_goes size root journal features m d content going is = record {
  behind = going.behind;
  area = is.fits;
  written = omega arith;
  generation = going.generation;
  texts =
      let text : sectors_of (length content.snapshot) ≡ sectors_of (length (snapshot m)) = ap (λ bytes. sectors_of (length bytes)) is.text in
      omega (arith, going.texts, is.fits, text);
}

-- A service whose draft is further has the invariants as before.
pub service_drafting : {sectors size version : ℕ} {root : Root} {journal kept_journal : Journal} {map : CachedView} {publication : Option PublicationView}
    {known : Option MapMetadata} {moment : Option MomentView} {draft : Option Draft} (old : Draft) (added : AddedTiles) (stage : DraftStage) → draft ≡ Some old
    → ((area : ℕ) → IsStage area (map_then (moment_map moment)) old.stage → IsStage area (map_then (moment_map moment)) stage)
    → ((m : FeatureMap) → HasAdded m old.added → IsOwn m stage → HasAdded m added)
    → IsService sectors size version root journal kept_journal map publication known moment draft
    → IsService sectors size version root journal kept_journal map publication known moment (Some (record old { added = added; stage = stage }))
service_drafting {size = size} {root = root} {journal} {map = map} {moment = moment} old added stage is further more was =
    let going = subst (λ (o : Option Draft). IfSome o (λ d. (moment_map moment ≡ Some (map_then (moment_map moment)))
    × IsGoingDraft size root journal map.features (map_then (moment_map moment)) d)) is was.drafts in
    record {
      within = was.within;
      version_is = was.version_is;
      ring = was.ring;
      area = was.area;
      texts = was.texts;
      counted = was.counted;
      last_is = was.last_is;
      back = was.back;
      going = was.going;
      told = was.told;
      as_of = was.as_of;
      drafts = (
        going.0,
        record {
          behind = going.1.behind;
          generation = going.1.generation;
          texts = going.1.texts;
          stage = further (area_sectors size) going.1.stage;
          added = more (map_then (moment_map moment)) going.1.added
              (own_stage (area_sectors size) (map_then (moment_map moment)) stage (further (area_sectors size) going.1.stage));
        },
      );
    }

module _ {D : Type 0} (sectors : ℕ) (h : History) (stored : Stored) (service : ServiceView D) (up : IsUp sectors h stored service) where
  count_is : count_of stored (drafted_now service) ≡ length stored.since
  count_is = omega (arith, up.last_is)

  used : service.journal.used ≡ places_of (take (count_of stored (drafted_now service)) (stored_records stored))
  used = up.used_is ∙ ap places_of (sym (take_all (count_of stored (drafted_now service)) (stored_records stored)
      (omega (arith, count_is, length-map stored.since record_for))))

  -- One of the map of now is one of the map after all edits.
  pub now_drafted : IsDrafted service.size stored (drafted_now service)
  now_drafted = record {
    later = omega (arith, up.last_is);
    within = omega (arith, count_is);
    map_is = sym (ap (map_at stored) count_is ∙ all_taken stored ∙ sym up.map_is);
    place_is = λ i. (up.place_is i + used i) % (ap (λ (r : Ring). r.places) up.ring_is) i;
    places_are = used;
  }

  -- A service with another one in the making continues from what is stored, if that is one of it.
  pub up_drafting : (d : Option DraftedView) → IfSome d (IsDrafted service.size stored) → IsUp sectors h stored (record service { drafting = d })
  up_drafting d is = record {
    keeps = up.keeps;
    unbroken = up.unbroken;
    version_is = up.version_is;
    generation_is = up.generation_is;
    snapshot_len_is = up.snapshot_len_is;
    archive_len_is = up.archive_len_is;
    map_is = up.map_is;
    place_is = up.place_is;
    edits_are = up.edits_are;
    used_is = up.used_is;
    ring_is = up.ring_is;
    last_is = up.last_is;
    publication = up.publication;
    drafting = is;
    were = up.were;
    archived = up.archived;
    reads = up.reads;
    older = up.older;
    shows = shows_on service (record service { drafting = d }) h h (up.older ++ stored.since) refl refl refl (λ at inside. refl) up.shows;
  }

  -- It continues with one of the map of now.
  pub up_begun : (d : DraftedView) → d.start.place ≡ (service.journal.place + service.journal.used) % service.journal.places
      → d.start.edits ≡ service.journal.last → d.places ≡ service.journal.used → d.features ≡ service.features
      → IsUp sectors h stored (record service { drafting = Some d })
  up_begun d place edits places features = up_drafting (Some d)
      (subst (IsDrafted service.size stored)
      (λ i. record { start = record { place = sym place i; edits = sym edits i }; places = sym places i; features = sym features i }) now_drafted)

  -- It continues without one.
  pub up_gone : (d : Option DraftedView) → d ≡ None → IsUp sectors h stored (record service { drafting = d })
  up_gone d none = up_drafting d (subst (λ (o : Option DraftedView). IfSome o (IsDrafted service.size stored)) (sym none) tt)

-- Where it begins, it continues with the publication.
pub up_drafted : {D : Type 0} (sectors : ℕ) (h : History) (stored : Stored) (service : ServiceView D) (d : DraftedView) (content : ContentView)
    → IsUp sectors h stored service → service.drafting ≡ Some d → service.generation < 2 ^ 64 - 1 → IsMap d.features
    → IsContentOf (area_sectors service.size) d.features content
    → IsUp sectors h stored (record service { publication = Some (publication_of d content); drafting = None })
up_drafted sectors h stored service d content up is generation is_map has =
    up_with sectors h stored (record service { drafting = None }) (up_drafting sectors h stored service up None tt) (Some (publication_of d content))
    (drafted_publishes service.size stored d content h
    (subst (λ (o : Option DraftedView). IfSome o (IsDrafted service.size stored)) is up.drafting) is_map
    (archive_of_publishable d.features content.archive has.is_archive) has.text has.fits (omega (arith, generation, up.generation_is)))

-- ---- the service without it

-- the invariants without a draft, and with another publication that is going on
pub service_undrafted : {sectors size version : ℕ} {root : Root} {journal kept_journal : Journal} {map : CachedView} {publication : Option PublicationView}
    {known : Option MapMetadata} {moment : Option MomentView} {draft : Option Draft} (later : Option PublicationView) (then : Option MomentView)
    (rest : Option Draft) → then ≡ None → rest ≡ None → IfSome later (IsGoing size root journal map.features)
    → IsService sectors size version root journal kept_journal map publication known moment draft
    → IsService sectors size version root journal kept_journal map later known then rest
service_undrafted {size = size} {root = root} {journal} {map = map} later then rest none_then none going was = record {
  within = was.within;
  version_is = was.version_is;
  ring = was.ring;
  area = was.area;
  texts = was.texts;
  counted = was.counted;
  last_is = was.last_is;
  back = was.back;
  going = going;
  told = was.told;
  as_of = subst (λ (o : Option MomentView). IsMomentOf o map.features) (sym none_then) tt;
  drafts = subst (λ (o : Option Draft). IfSome o (λ d. (moment_map then ≡ Some (map_then (moment_map then)))
      × IsGoingDraft size root journal map.features (map_then (moment_map then)) d)) (sym none) tt;
}

-- what is seen of a draft that is gone
pub gone_drafting : (moment : Option MomentView) (draft : Option Draft) → draft ≡ None → drafted_by moment draft ≡ None
gone_drafting moment draft none = ap (λ (o : Option Draft). drafted_by moment o) none

-- The map of a moment that there is is a map.
pub is_map_then : (moment : Option MomentView) (features : FeatureMap) → IsMomentOf moment features → moment_map moment ≡ Some (map_then (moment_map moment))
    → IsMap (map_then (moment_map moment))
is_map_then None features as_of is = absurd (false≢true (ap is_some is))
is_map_then (Some t) features as_of is = as_of.is_map

-- A draft that is there goes on: what is invariant of it.
pub draft_there : {sectors size version : ℕ} {root : Root} {journal kept_journal : Journal} {map : CachedView} {publication : Option PublicationView}
    {known : Option MapMetadata} {moment : Option MomentView} {draft : Option Draft} (d : Draft) → draft ≡ Some d
    → IsService sectors size version root journal kept_journal map publication known moment draft
    → IsMap (map_then (moment_map moment)) × IsGoingDraft size root journal map.features (map_then (moment_map moment)) d
draft_there {size = size} {root = root} {journal} {map = map} {moment = moment} d is was =
    let there = subst (λ (o : Option Draft). IfSome o (λ x. (moment_map moment ≡ Some (map_then (moment_map moment)))
    × IsGoingDraft size root journal map.features (map_then (moment_map moment)) x)) is was.drafts in
    (is_map_then moment map.features was.as_of there.0, there.1)

-- With what is made of it, it is as far as that is.
pub stage_reached : {sectors size version : ℕ} {root : Root} {journal kept_journal : Journal} {map : CachedView} {publication : Option PublicationView}
    {known : Option MapMetadata} {moment : Option MomentView} {draft : Option Draft} (d : Draft) (then : Option MomentView) (reached : DraftStage)
    → draft ≡ Some d → then ≡ moment
    → ((area : ℕ) → IsStage area (map_then (moment_map then)) d.stage → IsStage area (map_then (moment_map then)) reached)
    → IsService sectors size version root journal kept_journal map publication known moment draft
    → IsStage (area_sectors size) (map_then (moment_map moment)) reached
stage_reached {size = size} {moment = moment} d then reached is same further was =
    subst (λ (o : Option MomentView). (area : ℕ) → IsStage area (map_then (moment_map o)) d.stage → IsStage area (map_then (moment_map o)) reached)
    same further (area_sectors size) (draft_there d is was).1.stage
