-- A run as any caller of a service makes it, call by call.
use Rattle.std.proofs.Common.{◌≡◌, ◌≢◌, inl, ℕ, ◌<◌, ◌+◌, ◌-◌, List, [], ◌∷◌, ◌++◌, length, Option, Some, None, Result, Ok, true, false, refl, sym, ◌∙◌}
use Rattle.std.proofs.Common.{ap, subst, arith, append_assoc}
use Rattle.std.proofs.lemmas.List.{append-nil, map-append}
use Rattle.std.proofs.lemmas.List.Elements.{Contains-append_left, Contains-append_right}
use Rattle.std.specs.Prelude.{Contains, IfSome, IfErr, OnOk, map}
use Rattle.std.proofs.lemmas.Bool.{false≢true}
use Rattle.sector_disk.specs.Asked.{MayWrite, OnlyReads}
use Rattle.sector_disk.specs.Disk.{History, seen}
use Rattle.sector_disk.specs.Moments.{LeavesOnly}
use Rattle.sector_disk.proofs.AskedLaws.{writes_on, reads_may}
use Rattle.edit_journal.specs.Appends.{ring_of}
use Rattle.edit_journal.specs.Records.{RecordData}
use Rattle.edit_journal.specs.Ring.{sector_at}
use Rattle.edit_journal.specs.declared.fault.JournalFault.{JournalFault}
use Rattle.edit_text.specs.Recorded.{RecordedEdit}
use Rattle.feature_model.specs.Data.{FeatureData}
use Rattle.feature_store.specs.Store.{feature_at, feature_from}
use Rattle.map_metadata.specs.Metadata.{IsMetadata}
use Rattle.serde_json.specs.Data.{Data}
use Rattle.tile_service.specs.Machine.{ServiceState, OrMemory, Happening, Call, edit, begin, step, cancel, check, tile, tile_number, look, look_from}
use Rattle.tile_service.specs.Machine.{metadata, read, list_edits}
use Rattle.tile_service.specs.Machine.{IfTold, AnswersEdit, AnswersBegin, AnswersStep, AnswersCancel, AnswersCheck, Happens, Runs}
use Rattle.tile_service.specs.Runs.{IsDoubtful, edits_by, waiting_by, happening_at, all_edits, way_of, Way, Progress, starts, progress_of, NoneInDoubt, Reaches}
use Rattle.tile_service.specs.Runs.{begin_and_steps, IsTrusted, ChangesOnly, Takes, TakesEdit, TakesAll, TakesRun}
use Rattle.tile_service.specs.Service.{PublicationView, ServiceView, Known, Publishes, IsUp, state_of, known_after}
use Rattle.tile_service.specs.Service.{KeepsDraft, ShowsArchive, KeepsArchive, ReadsFrom, EventLeaves, shown_archive, stored_after}
use Rattle.tile_service.specs.Service.{ShowsEdits, StillShows, KeepsEdits}
use Rattle.tile_service.specs.Listing.{ListsFrom}
use Rattle.tile_service.specs.Stored.{Stored, Holds, Keeps, last_of}
use Rattle.tile_service.specs.Tags.{StillKnows, TellsNumber, IsNumbered}
use Rattle.tile_service.specs.declared.fault.ServiceFault.{ServiceFault}
use Rattle.tile_service.specs.declared.fault.ServiceFault.TheVariants.{Device}
use Rattle.tile_service.proofs.Archive.Read.{archive_there, archive_is_shown, shown_is_seen}
use Rattle.tile_service.proofs.Edits.ShownEdits.{shows_on, still_from}
use Rattle.tile_service.proofs.Runs.DiskAfter.{RunLeaves, IsHere, by_next, doubt_breaks, goes_on_by, run_starts, run_goes_on, run_fits, reaches_on}
use Rattle.tile_service.proofs.Runs.DiskAfter.{published_within, sized_as, starts_by}
use Rattle.tile_service.proofs.Runs.Progress.{Within, IsSince, has_start, has_last, progress_on, progress_edits, way_seen, way_after}
use Rattle.tile_service.proofs.Archive.Unchanged.{keeps_on, same_stays}
use Rattle.tile_service.proofs.Publications.WholePublication.{steps_more}
use Rattle.tile_service.proofs.Runs.OneEvent.{no_known, clash, is_false, doubt_breaks_it, IsQuiet, broken_stays, broken_halts, broken_refuses}
use Rattle.tile_service.proofs.Runs.OneEvent.{broken_unchecked, after_step, after_edit, after_check, kept_for, edit_version, step_version, check_version}
use Rattle.tile_service.proofs.Runs.OneEvent.{happens_less, runs_less, runs_on, writes_nothing, step_map, check_map}
use Rattle.tile_service.proofs.Tiles.Tags.{knows_same}

-- It shows that archive,
pub stored_shows : {D : Type 0} (count : ℕ) (history : History) (stored : Stored) (service : ServiceView D) → IsUp count history stored service
    → ShowsArchive history service stored.archive
stored_shows count history stored service up = archive_there count history stored service up

-- and the archive that any service shows is the one that is seen.
pub shown_seen : {D : Type 0} (history : History) (service : ServiceView D) (archive : List ℕ) → ShowsArchive history service archive
    → shown_archive (seen history) service ≡ archive
shown_seen history service archive shows = shown_is_seen history service archive shows

module _ {D : Type 0} (sectors : D → ℕ) (honest : D → Type 0) (history : D → History) where
  -- What a service continues from after a run: what is stored, and the publication that is under way.
  pub record IsUpAfter (old : ServiceView D) (events : List Happening) (now : ServiceView D) (stored : Stored) : Type 0 where
    pub reached : Stored
    pub is_up : IsUp (sectors now.disk) (history now.disk) reached now
    pub reaches : Reaches stored (way_of stored.edits old.publication) events reached
    pub way_is : way_of stored.edits now.publication ≡ (progress_of (starts stored (way_of stored.edits old.publication)) events).under_way

  -- What some events have done so far, in order.
  pub record HasRun (old : ServiceView D) (events : List Happening) (now : ServiceView D) : Type 0 where
    pub machine : (known : Known)
        → (then_known : Known) × Runs (IsTrusted sectors honest history old now) (state_of known old) events (state_of then_known now)
    pub unbroken : now.broken ≡ false → old.broken ≡ false
    pub size : now.size ≡ old.size
    pub version : now.version ≡ old.version
    pub asked : MayWrite sectors honest old.disk now.disk
    pub doubt : (index : ℕ) → index < length events → IsDoubtful (happening_at events index) → now.broken ≡ true
    pub keeps_archive : ¬ Contains events (step (Ok 0)) → KeepsArchive honest history old now
    pub knows : StillKnows old now
    pub up : (stored : Stored) → honest now.disk → IsUp (sectors old.disk) (history old.disk) stored old → now.broken ≡ false
        → IsUpAfter old events now stored
    pub leaves : (stored : Stored) → honest now.disk → IsUp (sectors old.disk) (history old.disk) stored old
        → RunLeaves (sectors old.disk) old.size stored (way_of stored.edits old.publication) events (history old.disk) (history now.disk)

  -- a publication under way is one of the edits since
  since_of : (n : ℕ) (stored : Stored) (h : History) (publication : Option PublicationView) → IfSome publication (Publishes n stored h)
      → IfSome publication (IsSince stored)
  since_of n stored h None publishes = tt
  since_of n stored h (Some p) publishes = (publishes.later, publishes.under_way.can.within)

  within_of : (stored : Stored) (publication : Option PublicationView) → IfSome publication (IsSince stored)
      → Within (starts stored (way_of stored.edits publication))
  within_of stored None since = record { published = omega arith; under_way = tt }
  within_of stored (Some p) since = record { published = omega arith; under_way = since.1 }

  up_since : (stored : Stored) (now : ServiceView D) → IsUp (sectors now.disk) (history now.disk) stored now → IfSome now.publication (IsSince stored)
  up_since stored now up = since_of now.size stored (history now.disk) now.publication up.publication

  -- before the first event
  pub run_begins : (old : ServiceView D) → HasRun old [] old
  run_begins old = record {
    machine = λ known. (known, refl);
    unbroken = λ is. is;
    size = refl;
    version = refl;
    asked = record { same_count = refl; was_honest = λ is_honest. is_honest };
    doubt = λ index lt. absurd (omega (arith, lt));
    keeps_archive = λ none. record {
      generation = refl;
      snapshot_len = refl;
      archive_len = refl;
      shows = λ archive shown is_honest. shown;
      journal = record { stays = same_stays old.journal old.journal refl; reads = λ is_honest offset lt. refl };
    };
    knows = λ n was known. known;
    up = λ stored is_honest up unbroken. record { reached = stored; is_up = up; reaches = has_start stored; way_is = refl };
    leaves = λ stored is_honest up. run_starts (sectors old.disk) old.size stored (way_of stored.edits old.publication) (history old.disk)
        (within_of stored old.publication (up_since stored old up)) up.keeps;
  }

  pub begins_by : (old : ServiceView D) (stored : Stored) (is_honest : honest old.disk) (up : IsUp (sectors old.disk) (history old.disk) stored old) (k : ℕ)
      → ((run_begins old).leaves stored is_honest up).by k ≡ history old.disk
  unfolding run_begins
  begins_by old stored is_honest up k = starts_by (sectors old.disk) old.size stored (way_of stored.edits old.publication) (history old.disk) _ _ k

  -- the archive that is shown stays where nothing is written, and neither its place nor its lengths change
  same_archive : (old new : ServiceView D)
      → new ≡ record old { disk = new.disk; publication = new.publication; published = new.published; kept = new.kept }
      → (honest new.disk → history new.disk ≡ history old.disk) → KeepsArchive honest history old new
  same_archive old new same unwritten = record {
    generation = ap (λ (s : ServiceView D). s.generation) same;
    snapshot_len = ap (λ (s : ServiceView D). s.snapshot_len) same;
    archive_len = ap (λ (s : ServiceView D). s.archive_len) same;
    shows = λ archive shown is_honest. subst (λ (s : ServiceView D). ShowsArchive (history new.disk) s archive) (sym same)
        (subst (λ (h : History). ShowsArchive h old archive) (sym (unwritten is_honest)) shown);
    journal = record {
      stays = same_stays old.journal new.journal (ap (λ (s : ServiceView D). s.journal) same);
      reads = λ is_honest offset lt. ap (λ (h : History). seen h (sector_at (ring_of old.journal) (old.journal.place + offset))) (unwritten is_honest);
    };
  }

  -- and so are the edits
  shown_same : (old new : ServiceView D) (event : Happening)
      → new ≡ record old { disk = new.disk; publication = new.publication; published = new.published; kept = new.kept }
      → (honest new.disk → history new.disk ≡ history old.disk) → edits_by event ≡ [] → (edits : List RecordedEdit) → ShowsEdits (history old.disk) old edits
      → honest new.disk → StillShows (history new.disk) old new edits (edits_by event) (waiting_by event)
  shown_same old new event same unwritten none edits shows is_honest = still_from (history new.disk) old new edits (edits_by event) (waiting_by event) none
      (ap (λ (s : ServiceView D). s.kept_journal.edits) same)
      (shows_on old new (history old.disk) (history new.disk) edits (ap (λ (s : ServiceView D). s.kept_journal) same)
      (ap (λ (s : ServiceView D). s.journal) same) (ap (λ (s : ServiceView D). s.version) same)
      (λ at inside. ap (λ (h : History). seen h at) (unwritten is_honest)) shows)

  shown_kept : (old new : ServiceView D) (event : Happening) → edits_by event ≡ [] → KeepsEdits honest history old new → (edits : List RecordedEdit)
      → ShowsEdits (history old.disk) old edits → honest new.disk → StillShows (history new.disk) old new edits (edits_by event) (waiting_by event)
  shown_kept old new event none keeps edits shows is_honest = let is = keeps edits shows is_honest in
      still_from (history new.disk) old new edits (edits_by event) (waiting_by event) none is.0 is.1

  with_published : (old new : ServiceView D) → new ≡ record old { publication = new.publication }
      → new ≡ record old { disk = new.disk; publication = new.publication; published = new.published; kept = new.kept }
  with_published old new same = same
      ∙ (λ i. record old { disk = disk i; publication = new.publication; published = published i; kept = kept i })
    where
      disk : old.disk ≡ new.disk
      disk = sym (ap (λ (s : ServiceView D). s.disk) same)

      published : old.published ≡ new.published
      published = sym (ap (λ (s : ServiceView D). s.published) same)

      kept : old.kept ≡ new.kept
      kept = sym (ap (λ (s : ServiceView D). s.kept) same)

  -- what leaves all but what is read of the disk
  module _ (old new : ServiceView D) (same : new ≡ record old { disk = new.disk; published = new.published; kept = new.kept })
      (reads : OnlyReads sectors honest history old.disk new.disk) where
    same_read : new ≡ record old { disk = new.disk; publication = new.publication; published = new.published; kept = new.kept }
    same_read = same ∙ (λ i. record old { disk = new.disk; publication = publication i; published = new.published; kept = new.kept })
      where
        publication : old.publication ≡ new.publication
        publication = sym (ap (λ (s : ServiceView D). s.publication) same)

    shows_same : KeepsArchive honest history old new
    shows_same = same_archive old new same_read reads.same_history

    knows_read : StillKnows old new
    knows_read = knows_same old new (ap (λ (s : ServiceView D). s.features) same) (ap (λ (s : ServiceView D). s.touched) same)
        (ap (λ (s : ServiceView D). s.journal.last) same)

    -- a tile that is shown reads the disk at most
    pub tile_step : (old.broken ≡ true → new.disk ≡ old.disk)
        → ((stored : Stored) → IsUp (sectors old.disk) (history old.disk) stored old → honest new.disk
        → IsUp (sectors new.disk) (history new.disk) stored new)
        → (z x y : ℕ) (outcome : OrMemory (Option (List ℕ)))
        → ((known : Known) → Happens (IsTrusted sectors honest history old new) (state_of known old) (tile z x y outcome) (state_of known new))
        → Takes sectors honest history old (tile z x y outcome) new
    tile_step untouched still_up z x y outcome machine = record {
      machine = machine;
      archive = λ archive shows honest. tt;
      listed = λ edits shows honest. tt;
      keeps_archive = λ other. shows_same;
      shows = λ edits shows is_honest installs. shown_same old new (tile z x y outcome) same_read reads.same_history refl edits shows is_honest;
      doubt = λ is. absurd is;
      size = ap (λ (s : ServiceView D). s.size) same;
      version = ap (λ (s : ServiceView D). s.version) same;
      asked = reads_may reads;
      changes = record { same = same; unwritten = reads.same_history };
      knows = knows_read;
      drafting = inl (ap (λ (s : ServiceView D). s.drafting) same);
      numbered = tt;
      untouched = λ broken is. untouched broken;
      any_moment = λ stored is_honest up. writes_nothing (sectors old.disk) old.size stored old.publication (tile z x y outcome)
          (history old.disk) (history new.disk) (reads.same_history is_honest) up.keeps;
      after = λ stored is_honest up not. still_up stored up is_honest;
    }

    -- and so does a read of the archive, of a broken service too
    pub read_step : ((stored : Stored) → IsUp (sectors old.disk) (history old.disk) stored old → honest new.disk
        → IsUp (sectors new.disk) (history new.disk) stored new)
        → (at : ℕ) (outcome : Option (List ℕ))
        → ((archive : List ℕ) → ShowsArchive (history old.disk) old archive → honest new.disk → ReadsFrom archive (read at outcome))
        → Takes sectors honest history old (read at outcome) new
    read_step still_up at outcome from = record {
      archive = from;
      listed = λ edits shows honest. tt;
      keeps_archive = λ other. shows_same;
      shows = λ edits shows is_honest installs. shown_same old new (read at outcome) same_read reads.same_history refl edits shows is_honest;
      machine = λ known. ap (λ (s : ServiceView D). state_of known s) same;
      doubt = λ is. absurd is;
      size = ap (λ (s : ServiceView D). s.size) same;
      version = ap (λ (s : ServiceView D). s.version) same;
      asked = reads_may reads;
      changes = record { same = same; unwritten = reads.same_history };
      knows = knows_read;
      drafting = inl (ap (λ (s : ServiceView D). s.drafting) same);
      numbered = tt;
      untouched = λ broken not. absurd (not tt);
      any_moment = λ stored is_honest up. writes_nothing (sectors old.disk) old.size stored old.publication (read at outcome)
          (history old.disk) (history new.disk) (reads.same_history is_honest) up.keeps;
      after = λ stored is_honest up not. still_up stored up is_honest;
    }

    -- and a list of edits
    pub list_step : ((stored : Stored) → IsUp (sectors old.disk) (history old.disk) stored old → honest new.disk
        → IsUp (sectors new.disk) (history new.disk) stored new)
        → (number bytes : ℕ) (outcome : Result (List RecordData) JournalFault)
        → ((edits : List RecordedEdit) → ShowsEdits (history old.disk) old edits → honest new.disk
        → ListsFrom old.kept_journal.edits edits (list_edits number bytes outcome))
        → Takes sectors honest history old (list_edits number bytes outcome) new
    list_step still_up number bytes outcome from = record {
      archive = λ archive shows honest. tt;
      listed = from;
      keeps_archive = λ other. shows_same;
      shows = λ edits shows is_honest installs. shown_same old new (list_edits number bytes outcome) same_read reads.same_history refl edits shows is_honest;
      machine = λ known. ap (λ (s : ServiceView D). state_of known s) same;
      doubt = λ is. absurd is;
      size = ap (λ (s : ServiceView D). s.size) same;
      version = ap (λ (s : ServiceView D). s.version) same;
      asked = reads_may reads;
      changes = record { same = same; unwritten = reads.same_history };
      knows = knows_read;
      drafting = inl (ap (λ (s : ServiceView D). s.drafting) same);
      numbered = tt;
      untouched = λ broken not. absurd (not tt);
      any_moment = λ stored is_honest up. writes_nothing (sectors old.disk) old.size stored old.publication (list_edits number bytes outcome)
          (history old.disk) (history new.disk) (reads.same_history is_honest) up.keeps;
      after = λ stored is_honest up not. still_up stored up is_honest;
    }

  -- the number of a tile is told, which changes nothing
  pub number_step : (old : ServiceView D) (z x y n : ℕ) → TellsNumber old z x y n → Takes sectors honest history old (tile_number z x y n) old
  number_step old z x y n told = record {
    machine = λ known. refl;
    archive = λ archive shows honest. tt;
    listed = λ edits shows honest. tt;
    keeps_archive = λ other. same_archive old old refl (λ is_honest. refl);
    shows = λ edits shows is_honest installs. still_from (history old.disk) old old edits [] (waiting_by (tile_number z x y n)) refl refl shows;
    doubt = λ is. absurd is;
    size = refl;
    version = refl;
    asked = record { same_count = refl; was_honest = λ is_honest. is_honest };
    changes = refl;
    knows = λ n was known. known;
    drafting = inl refl;
    numbered = told;
    untouched = λ broken is. refl;
    any_moment = λ stored is_honest up.
        writes_nothing (sectors old.disk) old.size stored old.publication (tile_number z x y n) (history old.disk) (history old.disk) refl up.keeps;
    after = λ stored is_honest up not. up;
  }

  -- a look at a feature changes nothing
  pub look_step : (old : ServiceView D) (id : ℕ) (outcome : OrMemory (Option FeatureData))
      → IfTold outcome (λ f. f ≡ feature_at old.features id) → Takes sectors honest history old (look id outcome) old
  look_step old id outcome found = record {
    machine = λ known. (found, refl);
    archive = λ archive shows honest. tt;
    listed = λ edits shows honest. tt;
    keeps_archive = λ other. same_archive old old refl (λ is_honest. refl);
    shows = λ edits shows is_honest installs. still_from (history old.disk) old old edits [] (waiting_by (look id outcome)) refl refl shows;
    doubt = λ is. absurd is;
    size = refl;
    version = refl;
    asked = record { same_count = refl; was_honest = λ is_honest. is_honest };
    changes = refl;
    knows = λ n was known. known;
    drafting = inl refl;
    numbered = tt;
    untouched = λ broken is. refl;
    any_moment = λ stored is_honest up.
        writes_nothing (sectors old.disk) old.size stored old.publication (look id outcome) (history old.disk) (history old.disk) refl up.keeps;
    after = λ stored is_honest up not. up;
  }

  -- nor does one at the first feature from a number on
  pub look_from_step : (old : ServiceView D) (id : ℕ) (outcome : OrMemory (Option (ℕ × FeatureData)))
      → IfTold outcome (λ f. f ≡ feature_from old.features id) → Takes sectors honest history old (look_from id outcome) old
  look_from_step old id outcome found = record {
    machine = λ known. (found, refl);
    archive = λ archive shows honest. tt;
    listed = λ edits shows honest. tt;
    keeps_archive = λ other. same_archive old old refl (λ is_honest. refl);
    shows = λ edits shows is_honest installs. still_from (history old.disk) old old edits [] (waiting_by (look_from id outcome)) refl refl shows;
    doubt = λ is. absurd is;
    size = refl;
    version = refl;
    asked = record { same_count = refl; was_honest = λ is_honest. is_honest };
    changes = refl;
    knows = λ n was known. known;
    drafting = inl refl;
    numbered = tt;
    untouched = λ broken is. refl;
    any_moment = λ stored is_honest up.
        writes_nothing (sectors old.disk) old.size stored old.publication (look_from id outcome) (history old.disk) (history old.disk) refl up.keeps;
    after = λ stored is_honest up not. up;
  }

  -- nor does the telling of its metadata
  pub metadata_step : (old : ServiceView D) (outcome : OrMemory Data) → IfTold outcome (λ d. IsMetadata old.features d)
      → Takes sectors honest history old (metadata outcome) old
  metadata_step old outcome is = record {
    machine = λ known. (is, refl);
    archive = λ archive shows honest. tt;
    listed = λ edits shows honest. tt;
    keeps_archive = λ other. same_archive old old refl (λ is_honest. refl);
    shows = λ edits shows is_honest installs. still_from (history old.disk) old old edits [] (waiting_by (metadata outcome)) refl refl shows;
    doubt = λ is. absurd is;
    size = refl;
    version = refl;
    asked = record { same_count = refl; was_honest = λ is_honest. is_honest };
    changes = refl;
    knows = λ n was known. known;
    drafting = inl refl;
    numbered = tt;
    untouched = λ broken is. refl;
    any_moment = λ stored is_honest up.
        writes_nothing (sectors old.disk) old.size stored old.publication (metadata outcome) (history old.disk) (history old.disk) refl up.keeps;
    after = λ stored is_honest up not. up;
  }

  -- an edit, by what a call of the service with it says
  pub edit_step : (failures : D → ℕ) (old new : ServiceView D) (call : Call) (e : RecordedEdit) (outcome : Result ℕ ServiceFault)
      → ((known : Known) → AnswersEdit (state_of known old) call e outcome (state_of known new))
      → TakesEdit sectors honest history failures old call e outcome new → Takes sectors honest history old (edit call e outcome) new
  edit_step failures old new call e outcome machine takes = record {
    machine = machine;
    archive = λ archive shown honest. tt;
    listed = λ edits shows honest. tt;
    keeps_archive = λ other. takes.keeps_archive;
    shows = λ edits shows is_honest installs. takes.shows edits shows is_honest;
    doubt = doubt_breaks_it (Unit {0}) (state_of no_known old) (state_of no_known new) (edit call e outcome) (machine no_known);
    size = takes.size;
    version = edit_version (state_of no_known old) (state_of no_known new) call e outcome (machine no_known);
    asked = takes.asked;
    changes = tt;
    knows = takes.knows;
    drafting = inl takes.drafting;
    numbered = tt;
    untouched = λ broken is. broken_refuses (state_of no_known old) (state_of no_known new) call e outcome (machine no_known) takes.unwritten broken;
    any_moment = takes.any_moment;
    after = λ stored is_honest up not. after_edit (λ (s : Stored). IsUp (sectors new.disk) (history new.disk) s new) old.size stored old.publication
        call e outcome (takes.acknowledged stored is_honest up) (takes.refused stored is_honest up) not;
  }

  -- a call that may change the publication in memory, and nothing else
  publication_step : (old new : ServiceView D) (happening : Happening)
      → ((known : Known) → Happens (IsTrusted sectors honest history old new) (state_of known old) happening (state_of (known_after known old happening) new))
      → new ≡ record old { publication = new.publication }
      → ((stored : Stored) → IsUp (sectors old.disk) (history old.disk) stored old → IsUp (sectors new.disk) (history new.disk) stored new)
      → ((archive : List ℕ) → ReadsFrom archive happening) → ((edits : List RecordedEdit) → ListsFrom old.kept_journal.edits edits happening)
      → IsNumbered old happening → ¬ IsDoubtful happening → edits_by happening ≡ [] → ChangesOnly sectors honest history happening old new
      → ((stored : Stored) → stored_after old.size stored old.publication happening ≡ stored) → Takes sectors honest history old happening new
  publication_step old new happening machine same up_still reads lists numbered sure none changes stays_stored = record {
    machine = machine;
    archive = λ archive shows honest. reads archive;
    listed = λ edits shows honest. lists edits;
    keeps_archive = λ other. same_archive old new (with_published old new same) (λ is_honest. ap (λ (s : ServiceView D). history s.disk) same);
    shows = λ edits shows is_honest installs. shown_same old new happening (with_published old new same)
        (λ is_honest. ap (λ (s : ServiceView D). history s.disk) same) none edits shows is_honest;
    doubt = λ is. absurd (sure is);
    size = ap (λ (s : ServiceView D). s.size) same;
    version = ap (λ (s : ServiceView D). s.version) same;
    asked = record {
      same_count = ap (λ (s : ServiceView D). sectors s.disk) same;
      was_honest = λ is_honest. subst (λ (d : D). honest d) (ap (λ (s : ServiceView D). s.disk) same) is_honest;
    };
    changes = changes;
    knows = knows_same old new (ap (λ (s : ServiceView D). s.features) same) (ap (λ (s : ServiceView D). s.touched) same)
        (ap (λ (s : ServiceView D). s.journal.last) same);
    drafting = inl (ap (λ (s : ServiceView D). s.drafting) same);
    numbered = numbered;
    untouched = λ broken is. ap (λ (s : ServiceView D). s.disk) same;
    any_moment = λ stored is_honest up. writes_nothing (sectors old.disk) old.size stored old.publication happening
        (history old.disk) (history new.disk) (ap (λ (s : ServiceView D). history s.disk) same) up.keeps;
    after = λ stored is_honest up not. subst (λ (s : Stored). IsUp (sectors new.disk) (history new.disk) s new) (sym (stays_stored stored))
        (up_still stored up);
  }

  -- the beginning of a publication is one
  pub begin_step : (old new : ServiceView D) (outcome : Result ℕ ServiceFault)
      → ((known : Known) → AnswersBegin (state_of known old) outcome (state_of (known_after known old (begin outcome)) new))
      → new ≡ record old { publication = new.publication }
      → ((stored : Stored) → IsUp (sectors old.disk) (history old.disk) stored old → IsUp (sectors new.disk) (history new.disk) stored new)
      → Takes sectors honest history old (begin outcome) new
  begin_step old new outcome machine same up_still =
      publication_step old new (begin outcome) machine same up_still (λ archive. tt) (λ edits. tt) tt (λ is. is) refl tt (λ stored. refl)

  -- and so is its cancellation
  pub cancel_step : (old new : ServiceView D) (outcome : Result (Unit {0}) ServiceFault)
      → ((known : Known) → AnswersCancel (state_of known old) outcome (state_of known new))
      → new ≡ record old { publication = new.publication }
      → ((stored : Stored) → IsUp (sectors old.disk) (history old.disk) stored old → IsUp (sectors new.disk) (history new.disk) stored new)
      → Takes sectors honest history old (cancel outcome) new
  cancel_step old new outcome machine same up_still =
      publication_step old new (cancel outcome) machine same up_still (λ archive. tt) (λ edits. tt) tt (λ is. is) refl tt (λ stored. refl)

  -- what a step of it does
  pub step_step : (old new : ServiceView D) (outcome : Result ℕ ServiceFault)
      → ((known : Known) → AnswersStep (state_of known old) outcome (state_of (known_after known old (step outcome)) new))
      → new.size ≡ old.size → new.touched ≡ old.touched → KeepsDraft old.drafting new.drafting → MayWrite sectors honest old.disk new.disk
      → IfErr outcome (λ fault. fault ≢ Device → new ≡ old)
      → ((stored : Stored) → honest new.disk → IsUp (sectors old.disk) (history old.disk) stored old
      → LeavesOnly (history old.disk) (history new.disk) (EventLeaves (sectors old.disk) old.size stored old.publication (step outcome)))
      → ((stored : Stored) → honest new.disk → IsUp (sectors old.disk) (history old.disk) stored old
      → OnOk outcome (IsUp (sectors new.disk) (history new.disk) (stored_after old.size stored old.publication (step outcome)) new))
      → ((outcome ≡ Ok 0 → ⊥) → KeepsArchive honest history old new)
      → ((outcome ≡ Ok 0 → (stored : Stored) × IsUp (sectors old.disk) (history old.disk) stored old) → KeepsEdits honest history old new)
      → Takes sectors honest history old (step outcome) new
  step_step old new outcome machine size touched drafting asked same leaves up_after shows keeps = record {
    machine = machine;
    archive = λ archive shown honest. tt;
    listed = λ edits shows honest. tt;
    keeps_archive = λ other. shows (λ (is : outcome ≡ Ok 0). other (ap step is));
    shows = λ edits shows is_honest installs.
        shown_kept old new (step outcome) refl (keeps (λ (is : outcome ≡ Ok 0). installs (ap step is))) edits shows is_honest;
    doubt = doubt_breaks_it (Unit {0}) (state_of no_known old) (state_of (known_after no_known old (step outcome)) new) (step outcome) (machine no_known);
    size = size;
    version = step_version (state_of no_known old) (state_of (known_after no_known old (step outcome)) new) outcome (machine no_known);
    asked = asked;
    changes = tt;
    knows =
        let is = step_map (state_of no_known old) (state_of (known_after no_known old (step outcome)) new) outcome (machine no_known) in
        knows_same old new is.0 touched is.1;
    drafting = drafting;
    numbered = tt;
    untouched = λ broken is. broken_halts (state_of no_known old) (state_of (known_after no_known old (step outcome)) new) outcome (machine no_known)
        (kept_for (λ (s : ServiceView D). s.disk ≡ old.disk) old new outcome same refl) broken;
    any_moment = leaves;
    after = λ stored is_honest up not. after_step (λ (s : Stored). IsUp (sectors new.disk) (history new.disk) s new) old.size stored old.publication
        outcome (up_after stored is_honest up)
        (kept_for (λ (s : ServiceView D). IsUp (sectors s.disk) (history s.disk) stored s) old new outcome same up) not;
  }

  -- a check of the disk, by what the call says
  pub check_step : (old new : ServiceView D) (outcome : Result (Unit {0}) ServiceFault)
      → ((known : Known) → AnswersCheck (state_of known old) outcome (state_of known new))
      → new.size ≡ old.size → new.touched ≡ old.touched → KeepsDraft old.drafting new.drafting → MayWrite sectors honest old.disk new.disk
      → IfErr outcome (λ fault. fault ≢ Device → new ≡ old)
      → ((stored : Stored) → honest new.disk → IsUp (sectors old.disk) (history old.disk) stored old
      → LeavesOnly (history old.disk) (history new.disk) (Holds (sectors old.disk) old.size stored))
      → ((stored : Stored) → honest new.disk → IsUp (sectors old.disk) (history old.disk) stored old
      → OnOk outcome (IsUp (sectors new.disk) (history new.disk) stored new))
      → KeepsArchive honest history old new → KeepsEdits honest history old new
      → Takes sectors honest history old (check outcome) new
  check_step old new outcome machine size touched drafting asked same leaves up_after shows keeps = record {
    machine = machine;
    archive = λ archive shown honest. tt;
    listed = λ edits shows honest. tt;
    keeps_archive = λ other. shows;
    shows = λ edits shows is_honest installs. shown_kept old new (check outcome) refl keeps edits shows is_honest;
    doubt = doubt_breaks_it (Unit {0}) (state_of no_known old) (state_of no_known new) (check outcome) (machine no_known);
    size = size;
    version = check_version (state_of no_known old) (state_of no_known new) outcome (machine no_known);
    asked = asked;
    changes = tt;
    knows =
        let is = check_map (state_of no_known old) (state_of no_known new) outcome (machine no_known) in
        knows_same old new is.0 touched is.1;
    drafting = drafting;
    numbered = tt;
    untouched = λ broken is. broken_unchecked (state_of no_known old) (state_of no_known new) outcome (machine no_known)
        (kept_for (λ (s : ServiceView D). s.disk ≡ old.disk) old new outcome same refl) broken;
    any_moment = leaves;
    after = λ stored is_honest up not. after_check (IsUp (sectors new.disk) (history new.disk) stored new) outcome (up_after stored is_honest up)
        (kept_for (λ (s : ServiceView D). IsUp (sectors s.disk) (history s.disk) stored s) old new outcome same up) not;
  }

  module _ (now new : ServiceView D) (event : Happening) (goes : Takes sectors honest history now event new) where
    abbrev known_then : Known
    known_then = known_after no_known now event

    -- a broken service stays so, and does nothing
    pub broken_on : now.broken ≡ true → (new.broken ≡ true) × IsQuiet event
    broken_on broken = let is = broken_stays (IsTrusted sectors honest history now new) (state_of no_known now) (state_of known_then new) event
        (goes.machine no_known) broken in (ap (λ (s : ServiceState). s.broken) is.0 ∙ broken, is.1)

    -- one that isn't broken after it wasn't before, and the disk didn't fail
    pub was_before : new.broken ≡ false → (now.broken ≡ false) × (IsDoubtful event → ⊥)
    was_before unbroken = (
      is_false now.broken (λ broken. clash new.broken unbroken (broken_on broken).0),
      λ failed. clash new.broken unbroken (goes.doubt failed),
    )

  -- a broken service writes nothing
  broken_unwritten : (now new : ServiceView D) (event : Happening) → Takes sectors honest history now event new → now.broken ≡ true → honest new.disk
      → history new.disk ≡ history now.disk
  broken_unwritten now new (read at outcome) goes broken is_honest = goes.changes.unwritten is_honest
  broken_unwritten now new (list_edits number bytes outcome) goes broken is_honest = goes.changes.unwritten is_honest
  broken_unwritten now new event goes broken is_honest = ap history (goes.untouched broken (λ is. is))

  module _ (old now new : ServiceView D) (events : List Happening) (event : Happening)
      (so : HasRun old events now) (goes : Takes sectors honest history now event new) where
    was : new.broken ≡ false → (now.broken ≡ false) × (IsDoubtful event → ⊥)
    was unbroken = was_before now new event goes unbroken

    abbrev way : Stored → Option Way
    way stored = way_of stored.edits old.publication

    -- the event at a service that isn't broken
    here : (stored : Stored) → honest new.disk → IsUp (sectors old.disk) (history old.disk) stored old → now.broken ≡ false
        → IsHere (sectors old.disk) old.size stored (way stored) events event (history now.disk) (history new.disk)
    here stored is_honest up unbroken =
        let so_far = so.up stored (goes.asked.was_honest is_honest) up unbroken in
        record {
          s = so_far.reached;
          publication = now.publication;
          reaches = so_far.reaches;
          way_is = so_far.way_is;
          since = up_since so_far.reached now so_far.is_up;
          call = sized_as
              (λ count n. LeavesOnly (history now.disk) (history new.disk) (EventLeaves count n so_far.reached now.publication event))
              so.asked.same_count so.size (goes.any_moment so_far.reached is_honest so_far.is_up);
          after = λ fine. subst
              (λ (n : ℕ). Keeps (sectors old.disk) old.size (stored_after n so_far.reached now.publication event) (history new.disk)) so.size
              (sized_as (λ count n. Keeps count n (stored_after now.size so_far.reached now.publication event) (history new.disk))
              (goes.asked.same_count ∙ so.asked.same_count) (goes.size ∙ so.size) (goes.after so_far.reached is_honest so_far.is_up fine).keeps);
        }

    none : now.broken ≡ false → NoneInDoubt events
    none unbroken index lt is = false≢true (sym unbroken ∙ so.doubt index lt is)

    up_on : (stored : Stored) → honest new.disk → IsUp (sectors old.disk) (history old.disk) stored old → new.broken ≡ false
        → IsUpAfter old (events ++ event ∷ []) new stored
    unfolding here
    up_on stored is_honest up unbroken =
        let so_far = so.up stored (goes.asked.was_honest is_honest) up (was unbroken).0 in
        let leaves = so.leaves stored (goes.asked.was_honest is_honest) up in
        let is_here = here stored is_honest up (was unbroken).0 in
        let p : Progress = progress_of (starts stored (way stored)) events in
        let last : last_of so_far.reached ≡ stored.edits + length (all_edits stored events) =
        has_last stored (all_edits stored events) p.published so_far.reached
        (published_within stored (way stored) leaves.within events) so_far.reaches in
        let counted : now.journal.last - stored.edits ≡ p.edits =
        omega (arith, so_far.is_up.last_is, last, progress_edits stored (way stored) events) in
        let then_known : Known = known_after no_known now event in
        let taken : Happens (IsTrusted sectors honest history now new) (state_of no_known now) event (state_of then_known new) =
        goes.machine no_known in
        record {
          reached = stored_after now.size so_far.reached now.publication event;
          is_up = goes.after so_far.reached is_honest so_far.is_up (was unbroken).1;
          reaches = subst (λ (n : ℕ). Reaches stored (way stored) (events ++ event ∷ [])
              (stored_after n so_far.reached now.publication event)) (sym so.size)
              (reaches_on (sectors old.disk) old.size stored (way stored) events event (history old.disk) (history now.disk)
              (history new.disk) leaves is_here.call.follows (none (was unbroken).0) is_here);
          way_is = sym (way_seen stored.edits then_known.publishing new.publication)
              ∙ way_after stored.edits (state_of no_known now) (state_of then_known new) p
              (way_seen stored.edits no_known.publishing now.publication ∙ so_far.way_is) (IsTrusted sectors honest history now new)
              event taken counted (was unbroken).1
              ∙ sym (ap (λ (q : Progress). q.under_way) (progress_on (starts stored (way stored)) events event));
        }

    leaves_on : (stored : Stored) → honest new.disk → IsUp (sectors old.disk) (history old.disk) stored old
        → RunLeaves (sectors old.disk) old.size stored (way stored) (events ++ event ∷ []) (history old.disk) (history new.disk)
    leaves_on stored is_honest up =
        run_goes_on (sectors old.disk) old.size stored (way stored) events event (history old.disk) (history now.disk) (history new.disk)
        (so.leaves stored (goes.asked.was_honest is_honest) up) now.broken
        (λ broken. (
          (broken_on now new event goes broken).1,
          broken_unwritten now new event goes broken is_honest,
        ))
        none (here stored is_honest up)

    -- what is trusted to the end was before
    trusted_before : IsTrusted sectors honest history old new → IsTrusted sectors honest history old now
    trusted_before trusted unbroken = let is = trusted unbroken in (goes.asked.was_honest is.0, is.1)

    trusted_now : IsTrusted sectors honest history old new → IsTrusted sectors honest history now new
    trusted_now trusted unbroken =
        let is = trusted (so.unbroken unbroken) in
        let up = so.up is.1.0 (goes.asked.was_honest is.0) is.1.1 unbroken in
        (is.0, (up.reached, up.is_up))

    -- one happening more
    pub run_on : HasRun old (events ++ event ∷ []) new
    run_on = record {
      machine = λ known.
          let so_far = so.machine known in (
            known_after so_far.0 now event,
            runs_on (IsTrusted sectors honest history old new) (state_of known old) (state_of so_far.0 now)
                (state_of (known_after so_far.0 now event) new) events event
                (runs_less (IsTrusted sectors honest history old new) (IsTrusted sectors honest history old now) trusted_before
                (state_of known old) (state_of so_far.0 now) events so_far.1)
                (happens_less (IsTrusted sectors honest history old new) (IsTrusted sectors honest history now new) trusted_now
                (state_of so_far.0 now) (state_of (known_after so_far.0 now event) new) event (goes.machine so_far.0)),
          );
      unbroken = λ is. so.unbroken (was is).0;
      size = goes.size ∙ so.size;
      version = goes.version ∙ so.version;
      asked = writes_on so.asked goes.asked;
      doubt = doubt_breaks events event now.broken new.broken goes.doubt (λ broken. (broken_on now new event goes broken).0) so.doubt;
      keeps_archive = λ none. keeps_on honest history old now new
          (so.keeps_archive (λ has. none (Contains-append_left events (event ∷ []) (step (Ok 0)) has))) goes.asked.was_honest
          (goes.keeps_archive (λ is. none (Contains-append_right events (event ∷ []) (step (Ok 0)) (0, omega arith, is))));
      knows = λ n was known. goes.knows n was (so.knows n was known);
      up = up_on;
      leaves = leaves_on;
    }

    -- by the history after it
    pub on_by : (stored : Stored) (is_honest : honest new.disk) (up : IsUp (sectors old.disk) (history old.disk) stored old) (k : ℕ)
        → (run_on.leaves stored is_honest up).by k
        ≡ by_next (so.leaves stored (goes.asked.was_honest is_honest) up).by (length events + 1) (history new.disk) k
    unfolding run_on leaves_on
    on_by stored is_honest up k =
        goes_on_by (sectors old.disk) old.size stored (way stored) events event (history old.disk) (history now.disk) (history new.disk)
        (so.leaves stored (goes.asked.was_honest is_honest) up) now.broken _ _ _ k

  -- some more
  pub run_on_all : (old now new : ServiceView D) (events more : List Happening) → HasRun old events now
      → TakesAll sectors honest history now more new → HasRun old (events ++ more) new
  run_on_all old now new events [] so same = subst (λ (l : List Happening). HasRun old l new) (sym (append-nil events))
      (subst (λ (s : ServiceView D). HasRun old events s) (sym same) so)
  run_on_all old now new events (event ∷ more) so goes =
      subst (λ (l : List Happening). HasRun old l new) (append_assoc events (event ∷ []) more)
      (run_on_all old goes.0 new (events ++ event ∷ []) more (run_on old now goes.0 events event so goes.1) goes.2)

  -- those of a chain, and one more
  pub events_on : (old now new : ServiceView D) (events : List Happening) (event : Happening) → TakesAll sectors honest history old events now
      → Takes sectors honest history now event new → TakesAll sectors honest history old (events ++ event ∷ []) new
  events_on old now new [] event so goes = (new, subst (λ (s : ServiceView D). Takes sectors honest history s event new) so goes, refl)
  events_on old now new (first ∷ events) event so goes = (so.0, so.1, events_on so.0 now new events event so.2 goes)

  -- the beginning and the steps of a publication, and one step more
  pub one_step_more : (first old new : ServiceView D) (before : List (Result ℕ ServiceFault)) (last outcome : Result ℕ ServiceFault)
      → HasRun first (begin_and_steps (before ++ last ∷ [])) old → TakesAll sectors honest history first (begin_and_steps (before ++ last ∷ [])) old
      → Takes sectors honest history old (step outcome) new
      → HasRun first (begin_and_steps ((before ++ last ∷ []) ++ outcome ∷ [])) new
      × TakesAll sectors honest history first (begin_and_steps ((before ++ last ∷ []) ++ outcome ∷ [])) new
  one_step_more first old new before last outcome run taken goes = (
    steps_more (λ (l : List Happening). HasRun first l new) before last outcome
        (run_on first old new (begin_and_steps (before ++ last ∷ [])) (step outcome) run goes),
    steps_more (λ (l : List Happening). TakesAll sectors honest history first l new) before last outcome
        (events_on first old new (begin_and_steps (before ++ last ∷ [])) (step outcome) taken goes),
  )

  -- the steps of a publication, and one more
  pub one_more_step : (first old new : ServiceView D) (before : List (Result ℕ ServiceFault)) (outcome : Result ℕ ServiceFault)
      → HasRun first (map step before) old → TakesAll sectors honest history first (map step before) old
      → Takes sectors honest history old (step outcome) new
      → HasRun first (map step (before ++ outcome ∷ [])) new × TakesAll sectors honest history first (map step (before ++ outcome ∷ [])) new
  one_more_step first old new before outcome run taken goes =
      let more : map step (before ++ outcome ∷ []) ≡ map step before ++ step outcome ∷ [] = map-append step before (outcome ∷ []) in (
        subst (λ (l : List Happening). HasRun first l new) (sym more) (run_on first old new (map step before) (step outcome) run goes),
        subst (λ (l : List Happening). TakesAll sectors honest history first l new) (sym more)
            (events_on first old new (map step before) (step outcome) taken goes),
      )

  -- What a run says of itself.
  pub takes_run : (old : ServiceView D) (events : List Happening) (now : ServiceView D) → HasRun old events now
      → TakesRun sectors honest history old events now
  takes_run old events now so = record {
    machine = so.machine;
    any_moment = λ stored is_honest up. let leaves = so.leaves stored is_honest up in (
      leaves.by,
      run_fits (sectors old.disk) old.size stored (way_of stored.edits old.publication) events (history old.disk) (history now.disk) leaves,
    );
    after = λ stored is_honest up unbroken. let then_up = so.up stored is_honest up unbroken in (then_up.reached, then_up.is_up, then_up.reaches);
    keeps_archive = so.keeps_archive;
    knows = so.knows;
  }
