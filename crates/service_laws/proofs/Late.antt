-- Calls that were made while a publication was in the making are calls made while it was under way.
use Rattle.std.proofs.Common.{◌≡◌, ◌<◌, ◌≤◌, ◌+◌, ◌^◌, ℕ, suc, List, [], ◌∷◌, ◌++◌, length, drop, Option, Some, None, Result, Ok, Err, refl, sym, ap, subst, ◌∙◌}
use Rattle.std.proofs.lemmas.Bool.{false≢true}
use Rattle.std.specs.Option.{is_some, option_map}
use Rattle.sector_disk.specs.Disk.{History}
use Rattle.sector_disk.specs.Moments.{LeavesOnly}
use Rattle.generations.specs.Areas.{area_sectors, sectors_of}
use Rattle.edit_text.specs.Recorded.{RecordedEdit}
use Rattle.tile_service.specs.declared.fault.ServiceFault.{ServiceFault}
use Rattle.tile_service.specs.declared.fault.ServiceFault.TheVariants.{Broken, Busy, Idle, NeedsUpgrade, Limit, NotFound, NumbersSpent, Memory}
use Rattle.tile_service.specs.declared.fault.ServiceFault.TheVariants.{TooManyTiles, AreaFull, JournalFull, Device}
use Rattle.tile_service.specs.Machine.{ServiceState, Publication, Happening, Happens, AnswersEdit, AnswersCheck, OrMemory, got, no_memory, IfTold, Call}
use Rattle.tile_service.specs.Machine.{edit, begin, step, cancel, check, tile, tile_number, look, look_from, metadata, read, list_edits}
use Rattle.tile_service.specs.Drafted.{DraftedView, IsDrafted}
use Rattle.tile_service.specs.Publishing.{map_at}
use Rattle.tile_service.specs.Runs.{edits_by, Takes, TakesAll, IsTrusted, ChangesOnly, CachesOnly}
use Rattle.tile_service.specs.Service.{PublicationView, ServiceView, Known, ShowsEdits, IsUp, Publishes, EventLeaves}
use Rattle.tile_service.specs.Service.{state_of, known_after, stored_after, going_of, count_at, with_publication}
use Rattle.tile_service.specs.Stored.{Stored, with_edit}
use Rattle.tile_service.specs.Tags.{IsNumbered}
use Rattle.tile_service.proofs.Edits.EditStored.{drafted_on}
use Rattle.tile_service.proofs.Edits.ShownEdits.{shows_on}
use Rattle.tile_service.proofs.Publications.Drafts.{drafted_publishes}
use Rattle.tile_service.proofs.Publications.Steps.{up_with}
use Rattle.service_laws.specs.Beside.{IsBeside, AreBeside, publishing}
use Rattle.service_laws.proofs.Beginnings.{edit_beside, check_beside}

-- ---- what doesn't depend on a publication

leaves_beside : (happening : Happening) → IsBeside happening → (old new : History) (sectors n : ℕ) (stored : Stored) (q r : Option PublicationView)
    → LeavesOnly old new (EventLeaves sectors n stored q happening) → LeavesOnly old new (EventLeaves sectors n stored r happening)
leaves_beside (edit call e outcome) b old new sectors n stored q r leaves = leaves
leaves_beside (begin outcome) b old new sectors n stored q r leaves = absurd b
leaves_beside (step outcome) b old new sectors n stored q r leaves = absurd b
leaves_beside (cancel outcome) b old new sectors n stored q r leaves = absurd b
leaves_beside (check outcome) b old new sectors n stored q r leaves = leaves
leaves_beside (tile z x y outcome) b old new sectors n stored q r leaves = leaves
leaves_beside (tile_number z x y number) b old new sectors n stored q r leaves = leaves
leaves_beside (look id outcome) b old new sectors n stored q r leaves = leaves
leaves_beside (look_from id outcome) b old new sectors n stored q r leaves = leaves
leaves_beside (metadata outcome) b old new sectors n stored q r leaves = leaves
leaves_beside (read at outcome) b old new sectors n stored q r leaves = leaves
leaves_beside (list_edits number bytes outcome) b old new sectors n stored q r leaves = leaves

stored_beside : (happening : Happening) → IsBeside happening → (n : ℕ) (stored : Stored) (q r : Option PublicationView)
    → stored_after n stored q happening ≡ stored_after n stored r happening
stored_beside (edit call e (Ok number)) b n stored q r = refl
stored_beside (edit call e (Err fault)) b n stored q r = refl
stored_beside (begin outcome) b n stored q r = absurd b
stored_beside (step outcome) b n stored q r = absurd b
stored_beside (cancel outcome) b n stored q r = absurd b
stored_beside (check outcome) b n stored q r = refl
stored_beside (tile z x y outcome) b n stored q r = refl
stored_beside (tile_number z x y number) b n stored q r = refl
stored_beside (look id outcome) b n stored q r = refl
stored_beside (look_from id outcome) b n stored q r = refl
stored_beside (metadata outcome) b n stored q r = refl
stored_beside (read at outcome) b n stored q r = refl
stored_beside (list_edits number bytes outcome) b n stored q r = refl

told_weaker : {A : Type 0} (o : OrMemory A) (P Q : A → Type 0) → ((a : A) → P a → Q a) → IfTold o P → IfTold o Q
told_weaker (got a) P Q weaker told = weaker a told
told_weaker no_memory P Q weaker told = tt

-- ---- the machine keeps the publication

abbrev under_way : ServiceState → Option Publication
under_way s = s.publication

edit_keeps : (old : ServiceState) (call : Call) (e : RecordedEdit) (outcome : Result ℕ ServiceFault) (new : ServiceState)
    → IsBeside (edit call e outcome) → AnswersEdit old call e outcome new → new.publication ≡ old.publication
edit_keeps old call e (Ok number) new b h = ap under_way h.made
edit_keeps old call e (Err Broken) new b h = ap under_way h.1
edit_keeps old call e (Err NeedsUpgrade) new b h = ap under_way h.2
edit_keeps old call e (Err (Limit fault)) new b h = ap under_way h.2
edit_keeps old call e (Err NotFound) new b h = ap under_way h.2
edit_keeps old call e (Err NumbersSpent) new b h = ap under_way h.2
edit_keeps old call e (Err Memory) new b h = ap under_way h.2
edit_keeps old call e (Err (JournalFull need free)) new b h = ap under_way h.2
edit_keeps old call e (Err Device) new b h = absurd b
edit_keeps old call e (Err Busy) new b h = absurd h.1
edit_keeps old call e (Err Idle) new b h = absurd h.1
edit_keeps old call e (Err TooManyTiles) new b h = absurd h.1
edit_keeps old call e (Err (AreaFull need free)) new b h = absurd h.1

check_keeps : (old : ServiceState) (outcome : Result (Unit {0}) ServiceFault) (new : ServiceState)
    → IsBeside (check outcome) → AnswersCheck old outcome new → new.publication ≡ old.publication
check_keeps old (Ok done) new b h = ap under_way h.1
check_keeps old (Err Broken) new b h = ap under_way h.1
check_keeps old (Err Device) new b h = absurd b
check_keeps old (Err NeedsUpgrade) new b h = absurd h.1
check_keeps old (Err (Limit fault)) new b h = absurd h.1
check_keeps old (Err NotFound) new b h = absurd h.1
check_keeps old (Err NumbersSpent) new b h = absurd h.1
check_keeps old (Err Memory) new b h = absurd h.1
check_keeps old (Err (JournalFull need free)) new b h = absurd h.1
check_keeps old (Err Busy) new b h = absurd h.1
check_keeps old (Err Idle) new b h = absurd h.1
check_keeps old (Err TooManyTiles) new b h = absurd h.1
check_keeps old (Err (AreaFull need free)) new b h = absurd h.1

unmapped : {A B : Type 0} (f : A → B) (o : Option A) → option_map f o ≡ None → o ≡ None
unmapped f None is = refl
unmapped f (Some x) is = absurd (false≢true (sym (ap is_some is)))

abbrev nothing_known : Known
nothing_known = record { archive = record { bytes = []; features = [] }; publishing = [] }

module _ {D : Type 0} where
  keeps : (trusted : Type 0) (known : Known) (old new : ServiceView D) (happening : Happening) → IsBeside happening
      → Happens trusted (state_of known old) happening (state_of (known_after known old happening) new)
      → option_map (going_of known.publishing) new.publication ≡ option_map (going_of known.publishing) old.publication
  keeps trusted known old new (edit call e outcome) b h = edit_keeps (state_of known old) call e outcome (state_of known new) b h
  keeps trusted known old new (begin outcome) b h = absurd b
  keeps trusted known old new (step outcome) b h = absurd b
  keeps trusted known old new (cancel outcome) b h = absurd b
  keeps trusted known old new (check outcome) b h = check_keeps (state_of known old) outcome (state_of known new) b h
  keeps trusted known old new (tile z x y outcome) b h = ap under_way h.1
  keeps trusted known old new (tile_number z x y number) b h = ap under_way h
  keeps trusted known old new (look id outcome) b h = ap under_way h.1
  keeps trusted known old new (look_from id outcome) b h = ap under_way h.1
  keeps trusted known old new (metadata outcome) b h = ap under_way h.1
  keeps trusted known old new (read at outcome) b h = ap under_way h
  keeps trusted known old new (list_edits number bytes outcome) b h = ap under_way h

-- ---- a publication of which nothing is written

module _ (p : PublicationView) (fresh : p.written ≡ 0) (n : ℕ) (stored : Stored) (h : History) (is : Publishes n stored h p) where
  abbrev drafted : DraftedView
  drafted = record { start = p.start; places = p.places; features = map_at stored (count_at stored p) }

  is_drafted : IsDrafted n stored drafted
  is_drafted = record {
    later = is.later;
    within = is.under_way.can.within;
    map_is = refl;
    place_is = is.place_is;
    places_are = is.places_are;
  }

  again : (other : Stored) (now : History) → other.generation ≡ stored.generation → IsDrafted n other drafted → Publishes n other now p
  again other now generation on =
      let can = is.under_way.can in
      subst (λ (q : PublicationView). Publishes n other now q) (ap (λ (w : ℕ). record p { written = w }) (sym fresh))
      (drafted_publishes n other drafted p.content now on can.is_map can.is_archive is.snapshot_is
      (subst (λ (s : List ℕ). sectors_of (length s) + sectors_of (length p.content.archive) ≤ area_sectors n) (sym is.snapshot_is) can.area)
      (subst (λ (g : ℕ). suc g < 2 ^ 64) (sym generation) can.generation))

  pub publishes_on : (happening : Happening) → IsBeside happening → (q : Option PublicationView) (now : History)
      → Publishes n (stored_after n stored q happening) now p
  publishes_on (edit call e (Ok number)) b q now = again (with_edit stored e) now refl (drafted_on n stored e drafted is_drafted)
  publishes_on (edit call e (Err fault)) b q now = again stored now refl is_drafted
  publishes_on (begin outcome) b q now = absurd b
  publishes_on (step outcome) b q now = absurd b
  publishes_on (cancel outcome) b q now = absurd b
  publishes_on (check outcome) b q now = again stored now refl is_drafted
  publishes_on (tile z x y outcome) b q now = again stored now refl is_drafted
  publishes_on (tile_number z x y number) b q now = again stored now refl is_drafted
  publishes_on (look id outcome) b q now = again stored now refl is_drafted
  publishes_on (look_from id outcome) b q now = again stored now refl is_drafted
  publishes_on (metadata outcome) b q now = again stored now refl is_drafted
  publishes_on (read at outcome) b q now = again stored now refl is_drafted
  publishes_on (list_edits number bytes outcome) b q now = again stored now refl is_drafted

-- ---- calls

module _ {D : Type 0} (sectors : D → ℕ) (honest : D → Type 0) (history : D → History) (p : PublicationView) (fresh : p.written ≡ 0) where
  abbrev pub with_it : ServiceView D → ServiceView D
  with_it s = with_publication s p

  -- without the publication the service continues as well
  pub up_bare : (n : ℕ) (h : History) (stored : Stored) (s : ServiceView D) → s.publication ≡ None → IsUp n h stored (with_it s) → IsUp n h stored s
  up_bare n h stored s none up =
      subst (λ (v : ServiceView D). IsUp n h stored v) (ap (λ (o : Option PublicationView). record s { publication = o }) (sym none))
      (up_with n h stored (with_it s) up None tt)

  trusted_bare : (old new : ServiceView D) → old.publication ≡ None → IsTrusted sectors honest history (with_it old) (with_it new)
      → IsTrusted sectors honest history old new
  trusted_bare old new none trusted unbroken =
      let t = trusted unbroken in (t.0, (t.1.0, up_bare (sectors old.disk) (history old.disk) t.1.0 old none t.1.1))

  machine_beside : (trusted now : Type 0) (known : Known) (old new : ServiceView D) (happening : Happening) → (now → trusted) → IsBeside happening
      → Happens trusted (state_of known old) happening (state_of (known_after known old happening) new)
      → Happens now (state_of known (with_it old)) happening (state_of (known_after known (with_it old) happening) (with_it new))
  machine_beside trusted now known old new (edit call e outcome) weaker b h =
      edit_beside (Some (going_of known.publishing p)) (state_of known old) call e outcome (state_of known new) b h
  machine_beside trusted now known old new (begin outcome) weaker b h = absurd b
  machine_beside trusted now known old new (step outcome) weaker b h = absurd b
  machine_beside trusted now known old new (cancel outcome) weaker b h = absurd b
  machine_beside trusted now known old new (check outcome) weaker b h =
      check_beside (Some (going_of known.publishing p)) (state_of known old) outcome (state_of known new) b h
  machine_beside trusted now known old new (tile z x y outcome) weaker b h =
      (told_weaker outcome _ _ (λ a told is. told (weaker is)) h.0, ap (publishing (Some (going_of known.publishing p))) h.1)
  machine_beside trusted now known old new (tile_number z x y number) weaker b h = ap (publishing (Some (going_of known.publishing p))) h
  machine_beside trusted now known old new (look id outcome) weaker b h = (h.0, ap (publishing (Some (going_of known.publishing p))) h.1)
  machine_beside trusted now known old new (look_from id outcome) weaker b h = (h.0, ap (publishing (Some (going_of known.publishing p))) h.1)
  machine_beside trusted now known old new (metadata outcome) weaker b h = (h.0, ap (publishing (Some (going_of known.publishing p))) h.1)
  machine_beside trusted now known old new (read at outcome) weaker b h = ap (publishing (Some (going_of known.publishing p))) h
  machine_beside trusted now known old new (list_edits number bytes outcome) weaker b h = ap (publishing (Some (going_of known.publishing p))) h

  caches_beside : (old new : ServiceView D) → CachesOnly sectors honest history old new → CachesOnly sectors honest history (with_it old) (with_it new)
  caches_beside old new c = record { same = ap with_it c.same; unwritten = c.unwritten }

  changes_beside : (happening : Happening) → IsBeside happening → (old new : ServiceView D) → ChangesOnly sectors honest history happening old new
      → ChangesOnly sectors honest history happening (with_it old) (with_it new)
  changes_beside (edit call e outcome) b old new c = tt
  changes_beside (begin outcome) b old new c = absurd b
  changes_beside (step outcome) b old new c = absurd b
  changes_beside (cancel outcome) b old new c = absurd b
  changes_beside (check outcome) b old new c = tt
  changes_beside (tile z x y outcome) b old new c = caches_beside old new c
  changes_beside (tile_number z x y number) b old new c = ap with_it c
  changes_beside (look id outcome) b old new c = ap with_it c
  changes_beside (look_from id outcome) b old new c = ap with_it c
  changes_beside (metadata outcome) b old new c = ap with_it c
  changes_beside (read at outcome) b old new c = caches_beside old new c
  changes_beside (list_edits number bytes outcome) b old new c = caches_beside old new c

  -- what is listed and what is told of a tile's number doesn't depend on it
  shows_bare : (h : History) (s : ServiceView D) (edits : List RecordedEdit) → ShowsEdits h (with_it s) edits → ShowsEdits h s edits
  shows_bare h s edits shows = shows_on (with_it s) s h h edits refl refl refl (λ at inside. refl) shows

  shows_with : (h : History) (s : ServiceView D) (edits : List RecordedEdit) → ShowsEdits h s edits → ShowsEdits h (with_it s) edits
  shows_with h s edits shows = shows_on s (with_it s) h h edits refl refl refl (λ at inside. refl) shows

  numbered_beside : (happening : Happening) (s : ServiceView D) → IsNumbered s happening → IsNumbered (with_it s) happening
  numbered_beside (tile_number z x y number) s told = record { is = told.is; most = told.most; knows = told.knows }
  numbered_beside (edit call e outcome) s told = tt
  numbered_beside (begin outcome) s told = tt
  numbered_beside (step outcome) s told = tt
  numbered_beside (cancel outcome) s told = tt
  numbered_beside (check outcome) s told = tt
  numbered_beside (tile z x y outcome) s told = tt
  numbered_beside (look id outcome) s told = tt
  numbered_beside (look_from id outcome) s told = tt
  numbered_beside (metadata outcome) s told = tt
  numbered_beside (read at outcome) s told = tt
  numbered_beside (list_edits number bytes outcome) s told = tt

  pub takes_beside : (old new : ServiceView D) (happening : Happening) → old.publication ≡ None → IsBeside happening
      → Takes sectors honest history old happening new → Takes sectors honest history (with_it old) happening (with_it new)
  takes_beside old new happening none b t = record {
    machine = λ known. machine_beside (IsTrusted sectors honest history old new) (IsTrusted sectors honest history (with_it old) (with_it new))
        known old new happening (trusted_bare old new none) b (t.machine known);
    archive = t.archive;
    listed = λ edits shows. t.listed edits (shows_bare (history old.disk) old edits shows);
    shows = λ edits shows is_honest installs.
        let still = t.shows edits (shows_bare (history old.disk) old edits shows) is_honest (λ is. absurd (subst IsBeside is b)) in
        record {
          count = still.count;
          within = still.within;
          forgotten = still.forgotten;
          shows = shows_with (history new.disk) new (drop still.count edits ++ edits_by happening) still.shows;
          full = still.full;
        };
    keeps_archive = λ other. let k = t.keeps_archive other in record {
      generation = k.generation;
      snapshot_len = k.snapshot_len;
      archive_len = k.archive_len;
      shows = k.shows;
      journal = record { stays = k.journal.stays; reads = k.journal.reads };
    };
    doubt = t.doubt;
    size = t.size;
    version = t.version;
    asked = t.asked;
    changes = changes_beside happening b old new t.changes;
    drafting = t.drafting;
    knows = t.knows;
    numbered = numbered_beside happening old t.numbered;
    untouched = t.untouched;
    any_moment = λ stored is up. leaves_beside happening b (history old.disk) (history new.disk) (sectors old.disk) old.size stored old.publication (Some p)
        (t.any_moment stored is (up_bare (sectors old.disk) (history old.disk) stored old none up));
    after = λ stored is up sure.
        let next = stored_after old.size stored (Some p) happening in
        let later = t.after stored is (up_bare (sectors old.disk) (history old.disk) stored old none up) sure in
        up_with (sectors new.disk) (history new.disk) next new
        (subst (λ (s : Stored). IsUp (sectors new.disk) (history new.disk) s new) (stored_beside happening b old.size stored old.publication (Some p)) later)
        (Some p)
        (subst (λ (n : ℕ). Publishes n next (history new.disk) p) (sym t.size)
        (publishes_on p fresh old.size stored (history old.disk) up.publication happening b (Some p) (history new.disk)));
  }

  pub none_still : (old new : ServiceView D) (happening : Happening) → old.publication ≡ None → IsBeside happening
      → Takes sectors honest history old happening new → new.publication ≡ None
  none_still old new happening none b t =
      unmapped (going_of []) new.publication
      (keeps (IsTrusted sectors honest history old new) nothing_known old new happening b (t.machine nothing_known)
      ∙ ap (option_map (going_of [])) none)

  all_beside : (old new : ServiceView D) (happenings : List Happening) → old.publication ≡ None → AreBeside happenings
      → TakesAll sectors honest history old happenings new → TakesAll sectors honest history (with_it old) happenings (with_it new)
  all_beside old new [] none b all = ap with_it all
  all_beside old new (happening ∷ happenings) none b all = (
    with_it all.0,
    takes_beside old all.0 happening none b.0 all.1,
    all_beside all.0 new happenings (none_still old all.0 happening none b.0 all.1) b.1 all.2,
  )

  -- the beginning, and then they
  pub late : (old new : ServiceView D) (left : ℕ) (happenings : List Happening) → old.publication ≡ None → AreBeside happenings
      → Takes sectors honest history old (begin (Ok left)) (with_publication old p) → TakesAll sectors honest history old happenings new
      → TakesAll sectors honest history old (begin (Ok left) ∷ happenings) (with_publication new p)
  late old new left happenings none b begins all = (with_it old, begins, all_beside old new happenings none b all)
