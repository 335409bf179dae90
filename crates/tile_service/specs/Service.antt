-- A service, apart from its place in memory, and its disk.
use Rattle.std.specs.Prelude.{◌≡◌, ◌≢◌, ◌⊎◌, ◌<◌, ◌≤◌, ◌+◌, ◌-◌, ◌*◌, ◌^◌, ◌%◌, ℕ, zero, List, [], ◌++◌, Bool, false, length, map, take, drop, All, slice_range}
use Rattle.std.specs.Prelude.{Option, Some, None, IfSome, option_map, Result, Ok, Err, MatchResult, Vec}
use Rattle.std.proofs.Common.{Global}
use Rattle.std.specs.declared.rc.RcSlice.{RcSlice}
use Rattle.sector_disk.specs.Disk.{History, Image, seen, HasFailed}
use Rattle.sector_disk.specs.Disk.History.{synced}
use Rattle.sector_disk.specs.declared.disk.TheConstants.{SECTOR_BYTES}
use Rattle.sector_bytes.specs.Bytes.{bytes_from}
use Rattle.sector_bytes.specs.Source.{AreItsBytes}
use Rattle.generations.specs.Areas.{area_sectors, area_start, sectors_of}
use Rattle.generations.specs.Sectors.{IsVersion}
use Rattle.generations.specs.declared.root.Root.{Root}
use Rattle.edit_journal.specs.Kept.{GoesBack, HasOlder, IsFull}
use Rattle.edit_journal.specs.Appends.{ring_of}
use Rattle.edit_journal.specs.Releases.{IsCounted, IsBehind}
use Rattle.edit_journal.specs.Ring.{sector_at, places_of}
use Rattle.edit_journal.specs.declared.fault.JournalFault.{JournalFault}
use Rattle.edit_journal.specs.declared.fault.JournalFault.TheVariants as journals
use Rattle.edit_journal.specs.declared.journal.Journal.{Journal}
use Rattle.edit_journal.specs.declared.journal.JournalPosition.{JournalPosition}
use Rattle.edit_journal.specs.declared.sizes.TheConstants.{PART_BYTES}
use Rattle.cached_map.specs.Cached.{CachedView, AreReadRight, shared_bytes}
use Rattle.area_content.specs.Content.{ContentView, sectors_taken}
use Rattle.area_content.specs.Drafts.{HasAdded, DraftView}
use Rattle.area_content.specs.declared.draft.Stage.TheVariants as stages
use Rattle.edit_text.specs.Recorded.{RecordedEdit}
use Rattle.feature_model.specs.declared.limits.TheConstants.{NUMBER_END}
use Rattle.feature_store.specs.Digests.{map_digest}
use Rattle.feature_store.specs.Moments.{MomentView, IsMomentOf, moment_map}
use Rattle.feature_store.specs.Store.{FeatureMap, greatest_id, snapshot}
use Rattle.map_metadata.specs.Metadata.{IsMetadataOf}
use Rattle.pm_archive.specs.declared.fault.ArchiveFault.{ArchiveFault}
use Rattle.pm_archive.specs.declared.fault.ArchiveFault.TheVariants as archives
use Rattle.published_tiles.specs.Published.{PublishedView, ArePublished}
use Rattle.tile_cache.specs.Cells.{stale_cells}
use Rattle.tile_cache.specs.Kept.{CacheView}
use Rattle.tile_cache.specs.declared.touch_grid.TheConstants.{LEVEL_CELLS}
use Rattle.published_tiles.specs.declared.place.ArchivePlace.{ArchivePlace}
use Rattle.tile_service.specs.Drafted.{DraftedView, IsDrafted}
use Rattle.tile_service.specs.declared.drafting.Draft.{Draft}
use Rattle.tile_service.specs.declared.drafting.Drafting.{Drafting}
use Rattle.tile_service.specs.declared.drafting.DraftStage.{DraftStage}
use Rattle.tile_service.specs.declared.drafting.DraftStage.TheVariants.{Reading, Going, Found, Refused}
use Rattle.tile_service.specs.declared.metadata_steps.MapMetadata.{MapMetadata}
use Rattle.tile_service.specs.declared.reading.MapReading.{MapReading}
use Rattle.tile_service.specs.declared.fault.ServiceFault.{ServiceFault}
use Rattle.tile_service.specs.declared.fault.ServiceFault.TheVariants.{NumbersSpent, Memory, JournalFull, Device}
use Rattle.tile_service.specs.declared.publishing.TheConstants.{STEP_SECTORS}
use Rattle.tile_service.specs.declared.status.Status.{Status}
use Rattle.tile_service.specs.Machine.{ArchiveState, Publication, ServiceState, OrMemory, got, no_memory, Happening, edit, begin, step, read}
use Rattle.tile_service.specs.Machine.{IsPublishable}
use Rattle.tile_service.specs.Metadata.{IsMetadataStage}
use Rattle.tile_service.specs.Publishing.{map_at, published, IsInArea, IsUnderWay, HasNoContent}
use Rattle.tile_service.specs.Stored.{Stored, Holds, Keeps, CanRecord, map_of, last_of, record_for, stored_records, with_edit, journal_ring}
use Rattle.tile_service.specs.Tiles.{WereMaps, archive_place}

-- what contracts see of a publication under way
pub record PublicationView : Type 0 where
  -- the snapshot and the archive of the map when it began
  pub content : ContentView
  -- where the journal continued when it began, and how many of its places were in use then
  pub start : JournalPosition
  pub places : ℕ
  -- how many sectors of the content are written
  pub written : ℕ

-- what is left of it: the sectors that aren't written, and the root's
abbrev pub left_of : PublicationView → ℕ
left_of p = sectors_taken p.content + 1 - p.written

-- what contracts see of a service
pub record ServiceView (D : Type 0) : Type 0 where
  pub disk : D
  -- with how many sectors the disk was formatted
  pub size : ℕ
  -- the version of its format
  pub version : ℕ
  pub features : FeatureMap
  -- the newest edit of each cell of the world
  pub touched : List ℕ
  -- the tiles that are cached
  pub kept : CacheView
  -- the records of the edits since the snapshot
  pub journal : Journal
  -- the same with the records before it that the ring still has
  pub kept_journal : Journal
  pub generation : ℕ
  -- the length in bytes of the snapshot of that generation, and of the archive after it
  pub snapshot_len : ℕ
  pub archive_len : ℕ
  pub publication : Option PublicationView
  -- the publication in the making
  pub drafting : Option DraftedView
  -- the look-up that is cached of the archive that was read last
  pub published : PublishedView
  pub broken : Bool

-- the invariants of a publication under way
pub record IsGoing (size : ℕ) (root : Root) (journal : Journal) (features : FeatureMap) (p : PublicationView) : Type 0 where
  -- the records that were in use when it began are the first of those in use
  pub behind : IsBehind journal p.start p.places
  -- it fits in an area
  pub area : sectors_taken p.content ≤ area_sectors size
  pub written : p.written ≤ sectors_taken p.content
  pub generation : root.generation < 2 ^ 64 - 1
  -- the texts of the features came from an area and from the records after those
  pub texts : length (snapshot features) ≤ SECTOR_BYTES * area_sectors size + PART_BYTES * (journal.used - p.places)

-- ---- a publication in the making

-- the map of a moment, if there is one
abbrev pub map_then : Option FeatureMap → FeatureMap
map_then None = []
map_then (Some m) = m

-- what contracts see of a draft, whose map is that of the moment
abbrev pub drafted_by : Option MomentView → Option Draft → Option DraftedView
drafted_by moment draft = option_map (λ d. record { start = d.start; places = d.places; features = map_then (moment_map moment) }) draft

-- the content is the snapshot of a map and an archive that is built of it, and fits in an area of this many sectors
pub record IsContentOf (area : ℕ) (m : FeatureMap) (content : ContentView) : Type 0 where
  pub is_archive : IsPublishable m content.archive
  pub text : content.snapshot ≡ snapshot m
  pub fits : sectors_taken content ≤ area

-- a map in the reading, for an area of this many sectors
pub record IsReading (area : ℕ) (m : FeatureMap) (reading : MapReading) : Type 0 where
  pub map_is : reading.map.features ≡ m
  pub metadata_is : reading.metadata.features ≡ m
  pub area_is : reading.area ≡ area
  pub fits : area < 2 ^ 23

-- how many numbers are left to look at, for the map and for its metadata
abbrev pub numbers_left : MapReading → ℕ
numbers_left reading = (NUMBER_END - reading.map.from) + (NUMBER_END - reading.metadata.from)

-- the content of a map in the making, for an area of this many sectors
pub record IsMaking (area : ℕ) (m : FeatureMap) (content : DraftView) : Type 0 where
  pub map_is : content.features ≡ m
  pub area_is : content.area ≡ area
  pub metadata : IsMetadataOf m content.metadata
  pub going : content.stage ≡ stages.Going

-- how far the content of a map is: the map is in the reading, the content is in the making, or made, or the map has none
abbrev pub IsStage : (area : ℕ) → FeatureMap → DraftStage → Type 0
IsStage area m (Reading reading) = IsReading area m reading
IsStage area m (Going content) = IsMaking area m content
IsStage area m (Found content) = IsContentOf area m content
IsStage area m (Refused fault) = HasNoContent m area fault

-- the same of what is in the making, for whatever area
abbrev pub IsOwn : FeatureMap → DraftStage → Type 0
IsOwn m (Reading reading) = IsReading reading.area m reading
IsOwn m (Going content) = IsMaking content.area m content
IsOwn m stage = Unit {0}

-- the invariants of a draft
pub record IsGoingDraft (size : ℕ) (root : Root) (journal : Journal) (features m : FeatureMap) (d : Draft) : Type 0 where
  -- the records that were in use when it began are the first of those in use
  pub behind : IsBehind journal d.start d.places
  pub generation : root.generation < 2 ^ 64 - 1
  -- the texts of the features came from those of its map and from the records after those
  pub texts : length (snapshot features) ≤ SECTOR_BYTES * sectors_of (length (snapshot m)) + PART_BYTES * (journal.used - d.places)
  pub stage : IsStage (area_sectors size) m d.stage
  pub added : HasAdded m d.added

-- the invariants of a service whose disk has this many sectors, and that keeps this of its map's metadata, if any
pub record IsService (sectors size version : ℕ) (root : Root) (journal kept_journal : Journal) (map : CachedView)
    (publication : Option PublicationView) (known : Option MapMetadata) (moment : Option MomentView) (draft : Option Draft) : Type 0 where
  pub within : size ≤ sectors
  pub version_is : IsVersion version
  pub ring : ring_of journal ≡ journal_ring size
  -- the snapshot and the archive fit in an area
  pub area : sectors_of root.snapshot_len + sectors_of root.archive_len ≤ area_sectors size
  -- the total length of the texts is bounded: they came from an area and from the journal
  pub texts : length (snapshot map.features) ≤ SECTOR_BYTES * area_sectors size + PART_BYTES * journal.used
  -- the records in use take the places in use
  pub counted : IsCounted journal
  -- the last edit of the journal is that of the map
  pub last_is : map.last ≡ journal.last
  -- the journal that is kept goes back from it
  pub back : GoesBack kept_journal journal
  pub going : IfSome publication (IsGoing size root journal map.features)
  pub told : IfSome known (IsMetadataStage map.features)
  -- a moment that is still asked for is one of the map, and a draft is of the map of the moment
  pub as_of : IsMomentOf moment map.features
  pub drafts : IfSome draft (λ d. (moment_map moment ≡ Some (map_then (moment_map moment)))
      × IsGoingDraft size root journal map.features (map_then (moment_map moment)) d)

-- the service with this publication under way
abbrev pub with_publication : {D : Type 0} → ServiceView D → PublicationView → ServiceView D
with_publication service p = record service { publication = Some p }

-- the publication of this content, of which nothing is written
abbrev pub publication_of : DraftedView → ContentView → PublicationView
publication_of d content = record { content = content; start = d.start; places = d.places; written = 0 }

-- a publication of the map of now, in the making
abbrev pub drafted_now : {D : Type 0} → ServiceView D → DraftedView
drafted_now service = record {
  start = record { place = (service.journal.place + service.journal.used) % service.journal.places; edits = service.journal.last };
  places = service.journal.used;
  features = service.features;
}

-- The publication of a draft begins with the content of its map, and what is left is returned; or its map has no content, for this reason.
abbrev pub BeginsDrafted : (size : ℕ) → DraftedView → Result ℕ ServiceFault → Option PublicationView → Type 0
BeginsDrafted size d (Ok left) publication =
    (content : ContentView) × IsContentOf (area_sectors size) d.features content × (publication ≡ Some (publication_of d content))
    × (left ≡ sectors_taken content + 1)
BeginsDrafted size d (Err fault) publication = (publication ≡ None) × HasNoContent d.features (area_sectors size) fault

-- What is told of a draft: so many tiles of its map are made, all with ids below one, an archive of them has so many entries, and so many
-- places were in use.
abbrev pub IsToldOf : Option DraftedView → Option Drafting → Type 0
IsToldOf None None = Unit {0}
IsToldOf None (Some told) = ⊥
IsToldOf (Some d) None = ⊥
IsToldOf (Some d) (Some told) = HasAdded d.features (record { count = told.made; entries = told.entries }) × (told.places ≡ d.places)

-- a draft is as it was, or gone
abbrev pub KeepsDraft : (old new : Option DraftedView) → Type 0
KeepsDraft old new = (new ≡ old) ⊎ (new ≡ None)

-- ---- the state

-- what the service doesn't have in memory: the archive, and the map of a publication under way
pub record Known : Type 0 where
  pub archive : ArchiveState
  pub publishing : FeatureMap

-- a publication of this map
abbrev pub going_of : FeatureMap → PublicationView → Publication
going_of m p = record { archive = record { bytes = p.content.archive; features = m }; last = p.start.edits; places = p.places; left = left_of p }

-- its state
abbrev pub state_of : {D : Type 0} → Known → ServiceView D → ServiceState
state_of known service = record {
  size = service.size;
  version = service.version;
  features = service.features;
  last = service.journal.last;
  free = service.journal.places - service.journal.used;
  generation = service.generation;
  archive = known.archive;
  publication = option_map (going_of known.publishing) service.publication;
  broken = service.broken;
}

-- what is known once the publication is installed
abbrev pub known_installed : Known → Option PublicationView → Known
known_installed known None = known
known_installed known (Some p) = record known { archive = record { bytes = p.content.archive; features = known.publishing } }

-- what is known after a step
abbrev pub known_stepped : Known → Option PublicationView → Result ℕ ServiceFault → Known
known_stepped known publication (Ok zero) = known_installed known publication
known_stepped known publication outcome = known

-- what is known after each happening
abbrev pub known_after : {D : Type 0} → Known → ServiceView D → Happening → Known
known_after known service (begin (Ok left)) = record known { publishing = service.features }
known_after known service (step outcome) = known_stepped known service.publication outcome
known_after known service happening = known

-- ---- its status

-- what it tells of itself
abbrev pub status_of : {D : Type 0} → ServiceView D → Status
status_of service = record {
  sectors = service.size;
  version = service.version;
  features = length service.features;
  last = greatest_id service.features;
  digest = map_digest service.features;
  edits = service.journal.last;
  published = service.journal.edits;
  forgotten = service.kept_journal.edits;
  generation = service.generation;
  archive_len = service.archive_len;
  journal_places = service.journal.places;
  journal_used = service.journal.used;
  area_sectors = area_sectors service.size;
  area_used = sectors_of service.snapshot_len + sectors_of service.archive_len;
  cells = LEVEL_CELLS;
  -- what edits after the last published one have touched
  stale = stale_cells service.touched service.journal.edits;
  drafting = option_map (λ d. d.places) service.drafting;
  left = option_map left_of service.publication;
  broken = service.broken;
}

-- the same with the publication in the making that it is told of
pub record StatusView : Type 0 where
  pub status : Status
  pub drafting : Option DraftedView

abbrev pub status_view : {D : Type 0} → ServiceView D → StatusView
status_view service = record { status = status_of service; drafting = service.drafting }

-- ---- the service and its disk

-- how many of the edits since the snapshot came before the publication began
abbrev pub count_at : Stored → PublicationView → ℕ
count_at stored p = p.start.edits - stored.edits

-- It publishes the map after some of the edits since, and reads return what it has written so far.
pub record Publishes (n : ℕ) (stored : Stored) (history : History) (p : PublicationView) : Type 0 where
  pub later : stored.edits ≤ p.start.edits
  pub under_way : IsUnderWay n stored (count_at stored p) p.content.archive p.written history
  pub snapshot_is : p.content.snapshot ≡ snapshot (map_at stored (count_at stored p))
  pub place_is : p.start.place ≡ (published n stored (count_at stored p) p.content.archive).journal_at
  pub places_are : p.places ≡ places_of (take (count_at stored p) (stored_records stored))

-- where its archive is stored
abbrev pub archive_of : {D : Type 0} → ServiceView D → ArchivePlace
archive_of service = archive_place service.size service.generation service.snapshot_len service.archive_len

-- A read gives the records of these edits, and of no other: they are acknowledged edits, in order, up to the last one, and those after the last
-- published one are among them. Also of a broken service.
pub record ShowsEdits {D : Type 0} (history : History) (service : ServiceView D) (edits : List RecordedEdit) : Type 0 where
  pub back : GoesBack service.kept_journal service.journal
  pub records : HasOlder (map record_for edits) service.kept_journal service.journal history
  pub are_edits : All (CanRecord service.version) edits

-- The service shows these edits, but for some first ones, and these after them. Some go only where the ring is full without them, with the
-- places that a record takes which isn't acknowledged.
pub record StillShows {D : Type 0} (history : History) (old new : ServiceView D) (edits more : List RecordedEdit) (waiting : ℕ) : Type 0 where
  pub count : ℕ
  pub within : count ≤ length edits
  pub forgotten : new.kept_journal.edits ≡ old.kept_journal.edits + count
  pub shows : ShowsEdits history new (drop count edits ++ more)
  pub full : (count ≡ 0) ⊎ IsFull new.kept_journal (new.kept_journal.used + waiting)

-- An honest disk gives the records of the same edits as before.
abbrev pub KeepsEdits : {D : Type 0} (honest : D → Type 0) (history : D → History) (old new : ServiceView D) → Type 0
KeepsEdits honest history old new = (edits : List RecordedEdit) → ShowsEdits (history old.disk) old edits → honest new.disk
    → (new.kept_journal.edits ≡ old.kept_journal.edits) × ShowsEdits (history new.disk) new edits

-- The service continues from the stored state: every image that a crash may leave now holds it, and the service has its map, numbers
-- and places. The disk has this many sectors and this history.
pub record IsUp {D : Type 0} (sectors : ℕ) (history : History) (stored : Stored) (service : ServiceView D) : Type 0 where
  pub keeps : Keeps sectors service.size stored history
  pub unbroken : service.broken ≡ false
  pub version_is : service.version ≡ stored.version
  pub generation_is : service.generation ≡ stored.generation
  pub snapshot_len_is : service.snapshot_len ≡ length (snapshot stored.snapshot_map)
  pub archive_len_is : service.archive_len ≡ length stored.archive
  pub map_is : service.features ≡ map_of stored
  pub place_is : service.journal.place ≡ stored.journal_at
  pub edits_are : service.journal.edits ≡ stored.edits
  pub used_is : service.journal.used ≡ places_of (stored_records stored)
  pub ring_is : ring_of service.journal ≡ journal_ring service.size
  pub last_is : service.journal.last ≡ last_of stored
  pub publication : IfSome service.publication (Publishes service.size stored history)
  pub drafting : IfSome service.drafting (IsDrafted service.size stored)
  -- it knows the map after any prefix of the edits since, for the tiles that no later edit can have changed
  pub were : WereMaps service.features service.touched service.journal.last stored.edits stored.snapshot_map stored.since
  -- the look-up that it caches is of this archive, and tiles that it read and cached are tiles of its map
  pub archived : ArePublished service.published (archive_of service) stored.archive
  pub reads : AreReadRight service.features service.touched service.journal.last service.kept
  -- the ring still has the records of some last edits before those since
  pub older : List RecordedEdit
  pub shows : ShowsEdits history service (older ++ stored.since)

-- the archive that an image has for a service: archive_len bytes of the sectors after the snapshot
abbrev pub shown_archive : {D : Type 0} → Image → ServiceView D → List ℕ
shown_archive image service =
    take service.archive_len
    (bytes_from image (area_start service.size service.generation + sectors_of service.snapshot_len) (sectors_of service.archive_len))

-- ---- what happens

-- The archive that a service serves, a broken one too: what its disk has in the archive's place. A service that continues from a
-- stored state serves the stored archive.
abbrev pub ShowsArchive : {D : Type 0} → History → ServiceView D → List ℕ → Type 0
ShowsArchive history service archive = AreItsBytes (archive_of service).first (archive_of service).len archive (seen history)

-- What a journal had in use is in use, in the same places.
pub record StaysInUse (old new : Journal) : Type 0 where
  pub ring : ring_of new ≡ ring_of old
  pub place : new.place ≡ old.place
  pub edits : new.edits ≡ old.edits
  pub used : old.used ≤ new.used

-- An honest disk still has what it had in the places that were in use.
pub record KeepsJournal {D : Type 0} (honest : D → Type 0) (history : D → History) (old new : ServiceView D) : Type 0 where
  pub stays : StaysInUse old.journal new.journal
  pub reads : honest new.disk → (offset : ℕ) → offset < old.journal.used
      → seen (history new.disk) (sector_at (ring_of old.journal) (old.journal.place + offset))
      ≡ seen (history old.disk) (sector_at (ring_of old.journal) (old.journal.place + offset))

-- The archive that is served is unchanged: its place and lengths are the same, and an honest disk still has it there. And so is what the
-- journal has in use.
pub record KeepsArchive {D : Type 0} (honest : D → Type 0) (history : D → History) (old new : ServiceView D) : Type 0 where
  pub generation : new.generation ≡ old.generation
  pub snapshot_len : new.snapshot_len ≡ old.snapshot_len
  pub archive_len : new.archive_len ≡ old.archive_len
  pub shows : (archive : List ℕ) → ShowsArchive (history old.disk) old archive → honest new.disk → ShowsArchive (history new.disk) new archive
  pub journal : KeepsJournal honest history old new

-- The area of a generation is unchanged: an honest disk still gives what it gave of each of its sectors.
abbrev pub KeepsArea : {D : Type 0} (honest : D → Type 0) (history : D → History) (generation : ℕ) → (old new : ServiceView D) → Type 0
KeepsArea honest history generation old new =
    honest new.disk → (at : ℕ) → IsInArea old.size generation at → seen (history new.disk) at ≡ seen (history old.disk) at

-- The place of an archive is in the area of its generation.
pub record IsPlaceIn (n : ℕ) (place : ArchivePlace) : Type 0 where
  pub from : area_start n place.generation ≤ place.first
  pub to : place.first + sectors_of place.len ≤ area_start n place.generation + area_sectors n

-- The archive that a history has in a place.
abbrev pub HasArchive : History → ArchivePlace → List ℕ → Type 0
HasArchive history place archive = AreItsBytes place.first place.len archive (seen history)

-- bytes that were read are those of this archive
abbrev pub ReadsFrom : List ℕ → Happening → Type 0
ReadsFrom archive (read at (Some bytes)) = bytes ≡ slice_range archive at (at + length bytes)
ReadsFrom archive happening = Unit {0}

-- what was read of an archive is shared as it is, unless its fault is reported, or that of an allocation
abbrev pub IsShared : Result (Option (Vec ℕ Global)) ArchiveFault → Result (Option (RcSlice ℕ Global)) ArchiveFault → Type 0
IsShared (Ok found) (Ok shared) = shared_bytes shared ≡ option_map (λ bytes. bytes.items) found
IsShared (Err fault) (Ok shared) = ⊥
IsShared found (Err fault) = (found ≡ Err fault) ⊎ (fault ≡ archives.Memory)

-- the outcome of a tile
abbrev pub tile_outcome : Result (Option (RcSlice ℕ Global)) ServiceFault → OrMemory (Option (List ℕ))
tile_outcome (Ok content) = got (shared_bytes content)
tile_outcome (Err fault) = no_memory

-- an edit is on the disk, or may be
abbrev pub MayStand : Result ℕ ServiceFault → Type 0
MayStand (Ok number) = Unit {0}
MayStand (Err fault) = fault ≡ Device

-- the stored state once the publication is installed
abbrev pub installed : (n : ℕ) → Stored → Option PublicationView → Stored
installed n stored None = stored
installed n stored (Some p) = published n stored (count_at stored p) p.content.archive

-- no more than a step's sectors are left to write
abbrev pub IsLast : Option PublicationView → Type 0
IsLast None = ⊥
IsLast (Some p) = left_of p ≤ STEP_SECTORS + 1

-- a step has installed the publication, or may have done so
abbrev pub MayInstall : Option PublicationView → Result ℕ ServiceFault → Type 0
MayInstall publication outcome = IsLast publication × ((outcome ≡ Ok 0) ⊎ (outcome ≡ Err Device))

-- A crash during the call leaves an image that holds what was stored, or that with the edit that is made or in doubt, or what the step
-- installs.
abbrev pub EventLeaves : (sectors n : ℕ) → Stored → Option PublicationView → Happening → Image → Type 0
EventLeaves sectors n stored publication (edit call e outcome) image =
    Holds sectors n stored image ⊎ (MayStand outcome × Holds sectors n (with_edit stored e) image)
EventLeaves sectors n stored publication (step outcome) image =
    Holds sectors n stored image ⊎ (MayInstall publication outcome × Holds sectors n (installed n stored publication) image)
EventLeaves sectors n stored publication happening image = Holds sectors n stored image

-- the stored state after a step
abbrev pub stepped_by : (n : ℕ) → Stored → Option PublicationView → Result ℕ ServiceFault → Stored
stepped_by n stored publication (Ok zero) = installed n stored publication
stepped_by n stored publication outcome = stored

-- the stored state after each happening
abbrev pub stored_after : (n : ℕ) → Stored → Option PublicationView → Happening → Stored
stored_after n stored publication (edit call e (Ok number)) = with_edit stored e
stored_after n stored publication (step outcome) = stepped_by n stored publication outcome
stored_after n stored publication happening = stored

-- the service fault for an append's fault
abbrev pub told_as : JournalFault → ServiceFault
told_as journals.NumbersSpent = NumbersSpent
told_as (journals.Full need free) = JournalFull need free
told_as journals.Memory = Memory
told_as journals.Device = Device
told_as journals.Damaged = Device

-- If the fault is Device, a call of the disk has failed, else none has.
abbrev pub CountsDevice : ServiceFault → (old new : ℕ) → Type 0
CountsDevice fault old new = ((fault ≡ Device) × HasFailed old new) ⊎ ((fault ≢ Device) × (new ≡ old))

-- The fault of a result says whether a call of the disk has failed, and success says that none has.
abbrev pub TellsDevice : {T : Type 0} → Result T ServiceFault → (old new : ℕ) → Type 0
TellsDevice result old new = MatchResult result (λ _. new ≡ old) (λ fault. CountsDevice fault old new)

-- The call synced the disk. If it failed, that was done or not.
abbrev pub SyncsDisk : Result (Unit {0}) ServiceFault → (old new : History) → Type 0
SyncsDisk result old new = MatchResult result (λ _. new ≡ synced old) (λ _. (new ≡ old) ⊎ (new ≡ synced old))
