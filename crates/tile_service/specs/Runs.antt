-- What a disk may hold during a run of calls.
use Rattle.std.specs.Prelude.{◌≡◌, ◌⊎◌, ◌<◌, ◌≤◌, ◌+◌, ◌-◌, ℕ, zero, suc, true, false, List, [], ◌∷◌, ◌++◌, length, take, drop, get_or}
use Rattle.std.specs.Prelude.{◌≢◌, map, All, Contains, Option, Some, None, option_map, Result, Ok, Err, OnOk, IfErr, MatchResult}
use Rattle.sector_disk.specs.Asked.{MayWrite}
use Rattle.sector_disk.specs.Disk.{History, Image, MayLeave, moment, LeftSince}
use Rattle.sector_disk.specs.Moments.{Follows, LeavesOnly}
use Rattle.cached_map.specs.Cached.{marks_after}
use Rattle.edit_journal.specs.Appends.{TakesSteps}
use Rattle.edit_text.specs.Recorded.{RecordedEdit}
use Rattle.tile_cache.specs.Touched.{StaysElsewhere}
use Rattle.tile_service.specs.After.{after}
use Rattle.tile_service.specs.declared.fault.ServiceFault.{ServiceFault}
use Rattle.tile_service.specs.declared.fault.ServiceFault.TheVariants.{Device}
use Rattle.tile_service.specs.declared.publishing.TheConstants.{STEP_SECTORS}
use Rattle.tile_service.specs.declared.publishing_whole.Published.{Published}
use Rattle.tile_service.specs.Machine.{no_memory, Happening, Call, edit, begin, step, cancel, check, tile, tile_number, look, look_from, metadata}
use Rattle.tile_service.specs.Machine.{read, list_edits}
use Rattle.tile_service.specs.Machine.{places_for, Happens, Runs}
use Rattle.tile_service.specs.Service.{PublicationView, ServiceView, Known, IsUp, state_of, known_after, left_of}
use Rattle.tile_service.specs.Service.{KeepsDraft, ShowsArchive, KeepsArchive, KeepsArea, ReadsFrom, EventLeaves, TellsDevice, stored_after}
use Rattle.tile_service.specs.Service.{ShowsEdits, StillShows}
use Rattle.tile_service.specs.Listing.{ListsFrom}
use Rattle.tile_service.specs.Stored.{Stored, Holds, with_edit}
use Rattle.tile_service.specs.Tags.{StillKnows, IsNumbered, KeepsLayers}

-- ---- the edits of a run

-- the edit that was acknowledged, or none
abbrev pub edits_by : Happening → List RecordedEdit
edits_by (edit call e (Ok number)) = e ∷ []
edits_by happening = []

-- how many places the record of an edit takes that wasn't acknowledged
abbrev pub waiting_by : Happening → ℕ
waiting_by (edit call e (Err fault)) = places_for e
waiting_by happening = 0

-- the acknowledged edits, in their order
abbrev pub acknowledged : List Happening → List RecordedEdit
acknowledged [] = []
acknowledged (happening ∷ happenings) = edits_by happening ++ acknowledged happenings

-- the disk failed during the call, so that its effect may be stored or not
abbrev pub IsDoubtful : Happening → Type 0
IsDoubtful (edit call e (Err Device)) = Unit {0}
IsDoubtful (step (Err Device)) = Unit {0}
IsDoubtful (check (Err Device)) = Unit {0}
IsDoubtful happening = ⊥

-- the happening with this index
abbrev pub happening_at : List Happening → ℕ → Happening
happening_at happenings index = get_or happenings index (look 0 no_memory)

-- the edit is in doubt
pub record IsInDoubt (happenings : List Happening) (e : RecordedEdit) : Type 0 where
  pub index : ℕ
  pub within : index < length happenings
  pub call : Call
  pub is : happening_at happenings index ≡ edit call e (Err Device)

-- all edits: those stored before the run, and the acknowledged ones
abbrev pub all_edits : Stored → List Happening → List RecordedEdit
all_edits start happenings = start.since ++ acknowledged happenings

-- the edits of the run: all those, and possibly one that is in doubt
abbrev pub AreEditsOf : Stored → List Happening → List RecordedEdit → Type 0
AreEditsOf start happenings edits = (edits ≡ all_edits start happenings)
    ⊎ ((e : RecordedEdit) × IsInDoubt happenings e × (edits ≡ all_edits start happenings ++ e ∷ []))

-- ---- the publications of a run

-- a publication under way: how many of the edits its map has, and what is left of it
pub record Way : Type 0 where
  pub edits : ℕ
  pub left : ℕ

-- the way of one that began before the run, whose first edit has number last + 1
abbrev pub way_of : (last : ℕ) → Option PublicationView → Option Way
way_of last publication = option_map (λ (p : PublicationView). record { edits = p.start.edits - last; left = left_of p }) publication

-- how many edits there are, how many of them the snapshot has, and the publication under way
pub record Progress : Type 0 where
  pub edits : ℕ
  pub published : ℕ
  pub under_way : Option Way

-- before the first event
abbrev pub starts : Stored → Option Way → Progress
starts start way = record { edits = length start.since; published = 0; under_way = way }

-- after a step that leaves this much
abbrev pub stepped : Progress → Option Way → ℕ → Progress
stepped p None told = p
stepped p (Some way) zero = record p { published = way.edits; under_way = None }
stepped p (Some way) (suc told) = record p { under_way = Some (record way { left = suc told }) }

-- after one happening
abbrev pub progress_after : Progress → Happening → Progress
progress_after p (edit call e (Ok number)) = record p { edits = p.edits + 1 }
progress_after p (begin (Ok left)) = record p { under_way = Some (record { edits = p.edits; left = left }) }
progress_after p (step (Ok left)) = stepped p p.under_way left
progress_after p (cancel (Ok done)) = record p { under_way = None }
progress_after p happening = p

-- after all of them
abbrev pub progress_of : Progress → List Happening → Progress
progress_of p [] = p
progress_of p (happening ∷ happenings) = progress_of (progress_after p happening) happenings

-- The disk failed during this step, which could have been the last, so that the publication of this many edits may be installed or not.
pub record IsStepInDoubt (start : Progress) (happenings : List Happening) (index edits : ℕ) : Type 0 where
  pub within : index < length happenings
  pub is : happening_at happenings index ≡ step (Err Device)
  pub way : Way
  pub under_way : (progress_of start (take index happenings)).under_way ≡ Some way
  pub last : way.left ≤ STEP_SECTORS + 1
  pub edits_are : edits ≡ way.edits

-- How many edits the snapshot may have at any time after the first k calls returned: those of the publication that was installed
-- last at some time since then, or those of one in doubt.
abbrev pub IsPublished : Progress → List Happening → (k j : ℕ) → Type 0
IsPublished start happenings k j =
    ((index : ℕ) × (k ≤ index) × (index ≤ length happenings) × (j ≡ (progress_of start (take index happenings)).published))
    ⊎ ((index : ℕ) × IsStepInDoubt start happenings index j)

-- ---- images

-- the state with the first i edits since a start: the first j of them in its snapshot, the others after it
abbrev pub fitting : Stored → List RecordedEdit → (i j generation journal_at : ℕ) → (archive : List ℕ) → Stored
fitting start edits i j generation journal_at archive = record {
  version = start.version;
  generation = generation;
  snapshot_map = after start.snapshot_map (take j edits);
  edits = start.edits + j;
  since = drop j (take i edits);
  journal_at = journal_at;
  archive = archive;
}

-- The image holds the first i of the edits, the first j of them in its snapshot.
abbrev pub Fits : (sectors n : ℕ) → Stored → List RecordedEdit → (i j : ℕ) → Image → Type 0
Fits sectors n start edits i j image =
    (generation : ℕ) × (journal_at : ℕ) × (archive : List ℕ) × Holds sectors n (fitting start edits i j generation journal_at archive) image

-- An image at any time after the first k calls returned. It has a prefix of the run's edits, all that were acknowledged by then
-- included. Its snapshot has the edits of a publication, of none before the last one that was installed by then.
pub record ImageFits (sectors n : ℕ) (start : Stored) (way : Option Way) (happenings : List Happening) (k : ℕ) (image : Image) : Type 0 where
  pub edits : List RecordedEdit
  pub are_edits : AreEditsOf start happenings edits
  pub i : ℕ
  pub j : ℕ
  pub within : i ≤ length edits
  pub order : j ≤ i
  pub acknowledged_then : length (all_edits start (take k happenings)) ≤ i
  pub published : IsPublished (starts start way) happenings k j
  pub fits : Fits sectors n start edits i j image

-- Nothing was left in doubt.
abbrev pub NoneInDoubt : List Happening → Type 0
NoneInDoubt happenings = (index : ℕ) → index < length happenings → ¬ IsDoubtful (happening_at happenings index)

-- how many edits the snapshot has after these
abbrev pub published_by : Stored → Option Way → List Happening → ℕ
published_by start way happenings = (progress_of (starts start way) happenings).published

-- What a run leaves of a disk, from one history to another: `by k` is the history when the first k calls had returned.
pub record RunFits (sectors n : ℕ) (start : Stored) (way : Option Way) (happenings : List Happening) (old new : History) (by : ℕ → History) : Type 0 where
  pub begins : by 0 ≡ old
  pub goes_on : (k : ℕ) → k < length happenings → Follows (by k) (by (suc k))
  pub ends : by (length happenings) ≡ new
  -- a crash then leaves all edits acknowledged by then, and the snapshot of the last publication, unless something was in doubt
  pub settled : (k : ℕ) → k ≤ length happenings → NoneInDoubt (take k happenings) → (image : Image) → MayLeave (by k) image
      → Fits sectors n start (all_edits start (take k happenings)) (length (all_edits start (take k happenings)))
      (published_by start way (take k happenings)) image
  -- at any moment between then and the return of the first m calls, a crash leaves that and some of what was requested
  -- by then
  pub fits : (k m : ℕ) → k ≤ m → m ≤ length happenings → (image : Image) → LeftSince (by m) (moment (by k)) image
      → ImageFits sectors n start way (take m happenings) k image

-- the stored state after a run with nothing in doubt
abbrev pub Reaches : Stored → Option Way → List Happening → Stored → Type 0
Reaches start way happenings s = (generation : ℕ) × (journal_at : ℕ) × (archive : List ℕ)
    × (s ≡ fitting start (all_edits start happenings) (length (all_edits start happenings)) (published_by start way happenings)
    generation journal_at archive)

-- ---- what a service makes of a run

-- bytes of the archive are asked for, or edits of the journal
abbrev pub IsRead : Happening → Type 0
IsRead (read at outcome) = Unit {0}
IsRead (list_edits number bytes outcome) = Unit {0}
IsRead happening = ⊥

-- a beginning and then steps, with these outcomes
abbrev pub begin_and_steps : List (Result ℕ ServiceFault) → List Happening
begin_and_steps [] = []
begin_and_steps (first ∷ outcomes) = begin first ∷ map step outcomes

-- something is left of the publication after this call
abbrev pub IsUnfinished : Result ℕ ServiceFault → Type 0
IsUnfinished (Ok left) = 0 < left
IsUnfinished (Err fault) = ⊥

-- How a whole publication ends: with a step that installs it, and the result is the generation, the last edit before it began and the
-- archive's length; or with a beginning or a step that is refused, and the result is its fault.
abbrev pub EndsAs : {D : Type 0} → Result Published ServiceFault → (old new : ServiceView D) → (last : Result ℕ ServiceFault) → Type 0
EndsAs (Ok p) old new last =
    (last ≡ Ok 0) × (p.generation ≡ new.generation) × (p.edits ≡ old.journal.last) × (p.archive_len ≡ new.archive_len)
EndsAs (Err fault) old new last = last ≡ Err fault

-- The same of the steps alone: the number is that of the last edit in the archive.
abbrev pub RestEndsAs : {D : Type 0} → Result Published ServiceFault → (new : ServiceView D) → (last : Result ℕ ServiceFault) → Type 0
RestEndsAs (Ok p) new last =
    (last ≡ Ok 0) × (p.generation ≡ new.generation) × (p.edits ≡ new.journal.edits) × (p.archive_len ≡ new.archive_len)
RestEndsAs (Err fault) new last = last ≡ Err fault

module _ {D : Type 0} (sectors : D → ℕ) (honest : D → Type 0) (history : D → History) where
  -- The disk is honest, and the service continues from what is stored there. The content of a tile is specified under this condition,
  -- since it may be read from the disk. A broken service reads no tile there.
  abbrev pub IsTrusted : ServiceView D → ServiceView D → Type 0
  IsTrusted old new = old.broken ≡ false → honest new.disk × ((stored : Stored) × IsUp (sectors old.disk) (history old.disk) stored old)

  -- The disk is only read, and the service is unchanged but for what it caches.
  pub record CachesOnly (old new : ServiceView D) : Type 0 where
    pub same : new ≡ record old { disk = new.disk; published = new.published; kept = new.kept }
    pub unwritten : honest new.disk → history new.disk ≡ history old.disk

  -- what a call that only reads may change
  abbrev pub ChangesOnly : Happening → ServiceView D → ServiceView D → Type 0
  ChangesOnly (tile z x y outcome) old new = CachesOnly old new
  ChangesOnly (read at outcome) old new = CachesOnly old new
  ChangesOnly (tile_number z x y n) old new = new ≡ old
  ChangesOnly (list_edits number bytes outcome) old new = CachesOnly old new
  ChangesOnly (look id outcome) old new = new ≡ old
  ChangesOnly (look_from id outcome) old new = new ≡ old
  ChangesOnly (metadata outcome) old new = new ≡ old
  ChangesOnly happening old new = Unit {0}

  -- One happening of any kind. A crash during it leaves the stored state from before, or the one that it results in. After it the
  -- resulting state is stored, unless the disk failed.
  pub record Takes (old : ServiceView D) (happening : Happening) (new : ServiceView D) : Type 0 where
    pub machine : (known : Known) → Happens (IsTrusted old new) (state_of known old) happening (state_of (known_after known old happening) new)
    -- bytes of the archive are those that the disk has there, for a broken service too
    pub archive : (archive : List ℕ) → ShowsArchive (history old.disk) old archive → honest new.disk → ReadsFrom archive happening
    -- edits that are listed are those that the disk has in the journal, for a broken service too
    pub listed : (edits : List RecordedEdit) → ShowsEdits (history old.disk) old edits → honest new.disk → ListsFrom old.kept_journal.edits edits happening
    -- The edits that it shows it goes on to show, but for some first ones, and the one that was made. An installation frees places, and the
    -- records stay where they are until newer ones take them.
    pub shows : (edits : List RecordedEdit) → ShowsEdits (history old.disk) old edits → honest new.disk
        → (happening ≡ step (Ok 0) → (stored : Stored) × IsUp (sectors old.disk) (history old.disk) stored old)
        → StillShows (history new.disk) old new edits (edits_by happening) (waiting_by happening)
    -- the archive is unchanged until another one is installed
    pub keeps_archive : (happening ≡ step (Ok 0) → ⊥) → KeepsArchive honest history old new
    -- after a fault of the disk it is broken
    pub doubt : IsDoubtful happening → new.broken ≡ true
    pub size : new.size ≡ old.size
    pub version : new.version ≡ old.version
    pub asked : MayWrite sectors honest old.disk new.disk
    pub changes : ChangesOnly happening old new
    -- a draft is as it was, or gone
    pub drafting : KeepsDraft old.drafting new.drafting
    -- each map that it knew is still known
    pub knows : StillKnows old new
    -- the number of a tile is that of its cells
    pub numbered : IsNumbered old happening
    -- a broken service doesn't write, and reads only the archive and the journal
    pub untouched : old.broken ≡ true → ¬ IsRead happening → new.disk ≡ old.disk
    pub any_moment : (stored : Stored) → honest new.disk → IsUp (sectors old.disk) (history old.disk) stored old
        → LeavesOnly (history old.disk) (history new.disk) (EventLeaves (sectors old.disk) old.size stored old.publication happening)
    pub after : (stored : Stored) → honest new.disk → IsUp (sectors old.disk) (history old.disk) stored old → ¬ IsDoubtful happening
        → IsUp (sectors new.disk) (history new.disk) (stored_after old.size stored old.publication happening) new

  -- What a call that makes an edit does to the service, whether the edit is made or refused.
  pub record TakesEdit (failures : D → ℕ) (old : ServiceView D) (call : Call) (e : RecordedEdit) (outcome : Result ℕ ServiceFault)
      (new : ServiceView D) : Type 0 where
    pub size : new.size ≡ old.size
    -- a publication under way continues after an edit, and one in the making stays one of the same map
    pub publication : OnOk outcome (new.publication ≡ old.publication)
    pub drafting : new.drafting ≡ old.drafting
    pub asked : MayWrite sectors honest old.disk new.disk
    -- no call of the disk has failed, unless the fault is Device
    pub failed : TellsDevice outcome (failures old.disk) (failures new.disk)
    -- any other fault writes nothing and changes nothing
    pub unwritten : IfErr outcome (λ fault. fault ≢ Device → new.disk ≡ old.disk)
    pub unchanged : IfErr outcome (λ fault. fault ≢ Device → new ≡ old)
    -- only numbers of cells that the box of a changed feature touches are changed, the box that it had or the one that it gets
    pub touches : MatchResult outcome (λ number. StaysElsewhere (marks_after old.features e.changes number []) old.touched new.touched)
        (λ fault. new.touched ≡ old.touched)
    -- each map that it knew is still known
    pub knows : StillKnows old new
    -- cached tiles stay
    pub cached : new.kept ≡ old.kept
    -- the archive is unchanged
    pub keeps_archive : KeepsArchive honest history old new
    -- the edits that it shows it goes on to show, but for some first ones, and this one if it is acknowledged
    pub shows : (edits : List RecordedEdit) → ShowsEdits (history old.disk) old edits → honest new.disk
        → StillShows (history new.disk) old new edits (edits_by (edit call e outcome)) (waiting_by (edit call e outcome))
    -- and so are the areas of all generations
    pub keeps_areas : (generation : ℕ) → KeepsArea honest history generation old new
    -- a crash during the call leaves what was stored, or that with the edit
    pub any_moment : (stored : Stored) → honest new.disk → IsUp (sectors old.disk) (history old.disk) stored old
        → LeavesOnly (history old.disk) (history new.disk) (EventLeaves (sectors old.disk) old.size stored old.publication (edit call e outcome))
    -- after the call the service continues with the edit if it was acknowledged, and without it if it was refused
    pub acknowledged : (stored : Stored) → honest new.disk → IsUp (sectors old.disk) (history old.disk) stored old
        → OnOk outcome (IsUp (sectors new.disk) (history new.disk) (with_edit stored e) new)
    pub refused : (stored : Stored) → honest new.disk → IsUp (sectors old.disk) (history old.disk) stored old
        → IfErr outcome (λ fault. fault ≢ Device → IsUp (sectors new.disk) (history new.disk) stored new)
    -- it makes one write for each sector of the record, and one sync, or two if there are several
    pub steps : honest new.disk → OnOk outcome (TakesSteps (places_for e) (history old.disk) (history new.disk))

  -- the happenings in order
  abbrev pub TakesAll : ServiceView D → List Happening → ServiceView D → Type 0
  TakesAll old [] new = new ≡ old
  TakesAll old (happening ∷ happenings) new = (between : ServiceView D) × Takes old happening between × TakesAll between happenings new

  -- The number of a tile as a tag: after any happenings, where the tile has this number again, its layers are the same.
  abbrev pub IsTag : (z x y number : ℕ) → ServiceView D → Type 0
  IsTag z x y number now = (happenings : List Happening) (later : ServiceView D) → TakesAll now happenings later → KeepsLayers z x y number now later

  -- The happenings in order. A crash at any moment leaves a prefix of the run's edits: all that were acknowledged by then, and none
  -- requested later. A service that isn't broken at the end continues from what was acknowledged.
  pub record TakesRun (old : ServiceView D) (happenings : List Happening) (new : ServiceView D) : Type 0 where
    pub machine : (known : Known) → (then_known : Known) × Runs (IsTrusted old new) (state_of known old) happenings (state_of then_known new)
    pub any_moment : (stored : Stored) → honest new.disk → IsUp (sectors old.disk) (history old.disk) stored old
        → (by : ℕ → History)
        × RunFits (sectors old.disk) old.size stored (way_of stored.edits old.publication) happenings (history old.disk) (history new.disk) by
    pub after : (stored : Stored) → honest new.disk → IsUp (sectors old.disk) (history old.disk) stored old → new.broken ≡ false
        → (reached : Stored) × IsUp (sectors new.disk) (history new.disk) reached new
        × Reaches stored (way_of stored.edits old.publication) happenings reached
    -- each map that it knew is still known
    pub knows : StillKnows old new
    -- the archive is unchanged, unless another one was installed
    pub keeps_archive : ¬ Contains happenings (step (Ok 0)) → KeepsArchive honest history old new

  -- The happenings in order, each from one state of the service to the next: `at k` is the state when the first k calls had returned. What a
  -- crash leaves is by the histories of the disks of these states.
  pub record TakesStates (old : ServiceView D) (happenings : List Happening) (new : ServiceView D) : Type 0 where
    pub at : ℕ → ServiceView D
    pub begins : at 0 ≡ old
    pub takes : (k : ℕ) → k < length happenings → Takes (at k) (happening_at happenings k) (at (suc k))
    pub ends : at (length happenings) ≡ new
    pub any_moment : (stored : Stored) → honest new.disk → IsUp (sectors old.disk) (history old.disk) stored old
        → RunFits (sectors old.disk) old.size stored (way_of stored.edits old.publication) happenings (history old.disk) (history new.disk)
        (λ k. history (at k).disk)

  -- The service begins a publication and continues this one until it is installed or a call is refused: each call before the last is
  -- made and leaves something.
  pub record TakesPublication (old : ServiceView D) (result : Result Published ServiceFault) (new : ServiceView D) : Type 0 where
    pub before : List (Result ℕ ServiceFault)
    pub unfinished : All IsUnfinished before
    pub last : Result ℕ ServiceFault
    pub takes : TakesAll old (begin_and_steps (before ++ last ∷ [])) new
    pub run : TakesRun old (begin_and_steps (before ++ last ∷ [])) new
    pub states : TakesStates old (begin_and_steps (before ++ last ∷ [])) new
    pub ends : EndsAs result old new last

  -- The service continues the publication that is under way until it is installed or a step is refused: each step before the last is made
  -- and leaves something.
  pub record TakesRest (old : ServiceView D) (result : Result Published ServiceFault) (new : ServiceView D) : Type 0 where
    pub before : List (Result ℕ ServiceFault)
    pub unfinished : All IsUnfinished before
    pub last : Result ℕ ServiceFault
    pub takes : TakesAll old (map step (before ++ last ∷ [])) new
    pub run : TakesRun old (map step (before ++ last ∷ [])) new
    pub states : TakesStates old (map step (before ++ last ∷ [])) new
    pub ends : RestEndsAs result new last
