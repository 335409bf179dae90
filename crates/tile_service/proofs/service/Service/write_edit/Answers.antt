use Rattle.std.specs.Prelude.{option_map}
use Rattle.std.proofs.Common.{◌≡◌, ◌≢◌, ◌⊎◌, ◌+◌, map, Ok, Err, ◌∙◌, ℕ, List, [], refl, sym, ap, subst, arith, length}
use Rattle.cached_map.specs.Cached.{CachedView, marks_after}
use Rattle.edit_journal.specs.Kept.{IsFull}
use Rattle.edit_journal.specs.Appends.{ring_of, IsAppendFault, TakesSteps}
use Rattle.edit_journal.specs.Records.{IsRecordLength, parts_of, record_of}
use Rattle.edit_journal.specs.Ring.{Ring, sector_at}
use Rattle.edit_text.specs.Recorded.{IsRecorded, text_in, FitsVersion}
use Rattle.feature_model.specs.Data.{ChangeData, edit_data}
use Rattle.feature_store.specs.Moments.{IsMomentOf}
use Rattle.feature_store.specs.Store.{edited, snapshot}
use Rattle.tile_cache.specs.Touched.{StaysElsewhere}
use Rattle.tile_service.specs.Machine.{recorded_in, AnswersEdit}
use Rattle.sector_disk.specs.Asked.{MayWrite}
use Rattle.tile_service.specs.Inside.{service_view}
use Rattle.tile_service.specs.Machine.{places_for}
use Rattle.tile_service.specs.Service.{CountsDevice, StillShows, IsUp, going_of, state_of}
use Rattle.tile_service.specs.Stored.{record_for, stored_records}
use Rattle.tile_service.specs.declared.fault.ServiceFault.TheVariants.{Device, Memory}
use Rattle.tile_service.proofs.Runs.DeviceFaults.{other_fault}
use Rattle.tile_service.proofs.Tiles.EarlierMaps.{since_on, now_on, right_on}
use Rattle.tile_service.proofs.Tiles.Tags.{same_known}
use Rattle.edit_journal.specs.declared.journal.Journal.{Journal}
use Rattle.tile_service.proofs.Edits.EditStored.{up_is_at, refuses_edit, append_counts, refused_unchanged, append_any_moment, refused_any_moment, up_with_edit}
use Rattle.tile_service.proofs.Edits.ServiceAfter.{service_on, refused_service, same_drafted, append_later, append_room, append_free, append_refuses}
use Rattle.tile_service.proofs.Archive.Unchanged.{append_keeps, append_area, more_stays, same_stays}
use Rattle.edit_journal.proofs.ReadAgain.{in_use_taken}
use Rattle.tile_service.proofs.Edits.ShownEdits.{shows_appended, shows_refused}
use Rattle.tile_service.proofs.Edits.Limits.{text_length, short_after_edit, short_enough}
use Rattle.tile_service.proofs.service.Service.write_edit.Goals as goal

pub returns-in-Err-clause-takes : goal.returns-in-Err-clause-takes
returns-in-Err-clause-takes g c = rw (← c.self.view_is)
    (λ call. refuses_edit g.D.Sectors.sectors g.D.Sectors.honest g.D.Sectors.history g.D.Sectors.faults _ _ call
    (recorded_in c.self.inside.version (edit_data c.args.requested)) Memory
    (ap (λ m. service_view (record c.self.inside { map = m })) c.prepare.ensures.same) (other_fault Memory refl))

pub append_to_both-requires-clause-text : goal.append_to_both-requires-clause-text
append_to_both-requires-clause-text g c = subst (λ (t : List ℕ). IsRecordLength c.self.inside.version (length t))
    (sym (c.deref.ensures.value ∙ c.in-Ok.ensures.text))
    (text_length c.self.inside.version (edit_data c.args.requested) c.self.invariant.version_is c.requires.allowed)

pub make_edit-requires-clause-texts : goal.make_edit-requires-clause-texts
make_edit-requires-clause-texts g c = rw (ap (λ m. m.features) c.prepare.ensures.same, c.in-Ok.ensures.prepared)
    (short_enough c.self.inside.map.features (edit_data c.args.requested) c.self.inside.layout.sectors c.self.inside.journal.used c.self.inside.layout.size.1
    (omega (arith, c.self.inside.journal.room, ap (λ (r : Ring). r.places) c.self.invariant.ring)) c.self.invariant.texts c.requires.allowed)

pub invariant_of-self-in-Ok-append_to_both : goal.invariant_of-self-in-Ok-append_to_both
invariant_of-self-in-Ok-append_to_both g c =
    let version = c.self.inside.version in
    let text : c.deref.result.now ≡ text_in version (edit_data c.args.requested) = c.deref.ensures.value ∙ c.in-Ok.ensures.text in
    let later = c.make_edit.ensures.map ∙ ap (edited c.prepare.new.cached.features) c.in-Ok.ensures.prepared
    ∙ ap (λ m. edited m.features (edit_data c.args.requested)) c.prepare.ensures.same in
    service_on c.self.inside.layout.sectors version c.self.inside.root c.self.inside.journal c.append_to_both.new.self c.append_to_both.ensures.same.0 c.append_to_both.ensures.same.1
    (length c.deref.result.now)
    (subst (λ (t : List ℕ). IsRecordLength version (length t)) (sym text)
    (text_length version (edit_data c.args.requested) c.self.invariant.version_is c.requires.allowed))
    c.in-Ok-append_to_both.ensures.used c.in-Ok-append_to_both.ensures.last c.self.inside.map c.make_edit.new.self
    (omega (arith, c.make_edit.ensures.last, c.in-Ok-append_to_both.ensures.number, c.in-Ok-append_to_both.ensures.last))
    (λ area places was. omega (
      arith,
      ap (λ m. length (snapshot m)) later,
      ap (λ (t : List ℕ). parts_of (length t)) text,
      short_after_edit version c.self.inside.map.features (edit_data c.args.requested) area places c.self.invariant.version_is was,
    ))
    _ _ _ _ _ _ _ _ _ c.append_to_both.ensures.disk.same_count c.make_edit.ensures.moment
    (λ was. c.make_edit.ensures.as_of (subst (IsMomentOf c.self.inside.moment) (sym (ap (λ m. m.features) c.prepare.ensures.same)) was))
    c.append_to_both.ensures.back c.self.invariant

pub returns-in-Ok-append_to_both-clause-takes : goal.returns-in-Ok-append_to_both-clause-takes
returns-in-Ok-append_to_both-clause-takes g c = rw (← c.self.view_is) (λ call. record {
  size = refl;
  publication = refl;
  drafting = same_drafted c.self.inside.moment c.make_edit.new.moment c.self.inside.draft c.make_edit.ensures.moment;
  asked = c.append_to_both.ensures.disk;
  failed = c.in-Ok-append_to_both.ensures.faults;
  unwritten = tt;
  unchanged = tt;
  touches = subst (λ (m : CachedView). StaysElsewhere (marks_after m.features (edit_data c.args.requested) c.in-Ok-append_to_both.number []) m.touched
      c.make_edit.new.self.touched) c.prepare.ensures.same (subst (λ (cs : List ChangeData).
      StaysElsewhere (marks_after c.prepare.new.cached.features cs c.in-Ok-append_to_both.number []) c.prepare.new.cached.touched c.make_edit.new.self.touched)
      c.in-Ok.ensures.prepared c.make_edit.ensures.stays);
  knows =
      let last : c.make_edit.new.self.last ≡ c.append_to_both.new.self.last =
      omega (arith, c.make_edit.ensures.last, c.in-Ok-append_to_both.ensures.number, c.in-Ok-append_to_both.ensures.last) in
      since_on c.self.inside.map c.prepare.new.cached c.make_edit.new.self c.self.inside.journal.last c.append_to_both.new.self.last c.self.invariant.last_is
      c.prepare.ensures.same last c.make_edit.ensures.since;
  cached = c.make_edit.ensures.kept ∙ ap (λ m. m.kept) c.prepare.ensures.same;
  keeps_archive = append_keeps g.D.Sectors.honest g.D.Sectors.history _ _ refl refl refl refl c.self.invariant.area
      (ring_of c.self.inside.journal) c.self.invariant.ring c.self.inside.journal.place c.self.inside.journal.used c.append_to_both.new.disk refl
      c.append_to_both.ensures.reads
      (more_stays c.self.inside.journal c.append_to_both.new.self c.append_to_both.ensures.same.0 c.append_to_both.ensures.same.1 (omega (arith, c.in-Ok-append_to_both.ensures.used)))
      (λ honest offset lt. c.append_to_both.ensures.reads honest (sector_at (ring_of c.self.inside.journal) (c.self.inside.journal.place + offset))
      (in_use_taken c.self.inside.journal offset lt));
  shows = λ edits shows honest. shows_appended (g.D.Sectors.history c.self.inside.disk) (g.D.Sectors.history c.append_to_both.new.disk) _ _ edits
      (recorded_in c.self.inside.version (edit_data c.args.requested)) _
      (ap (record_of c.self.inside.version) (c.deref.ensures.value ∙ c.in-Ok.ensures.text))
      (record { recorded = record { fits = c.in-Ok.ensures.record.fits; edit = c.in-Ok.ensures.record.edit }; version_is = omega arith })
      refl c.in-Ok-append_to_both.ensures.last c.append_to_both.ensures.back c.append_to_both.ensures.later
      (c.in-Ok-append_to_both.ensures.older (map record_for edits) honest shows.records) (c.in-Ok-append_to_both.ensures.full (map record_for edits) honest shows.records) shows;
  keeps_areas = λ generation honest. append_area c.self.inside.layout.sectors generation _ _ (ring_of c.self.inside.journal) c.self.invariant.ring
      c.self.inside.journal.place c.self.inside.journal.used (c.append_to_both.ensures.reads honest);
  any_moment = (λ stored honest up.
      let version = c.self.inside.version in
      let recorded : IsRecorded (recorded_in version (edit_data c.args.requested)) =
      record { fits = c.in-Ok.ensures.record.fits; edit = c.in-Ok.ensures.record.edit } in
      let at = up_is_at g.D.Sectors.sectors g.D.Sectors.history stored _ c.self.invariant.ring up in
      append_any_moment g.D.Sectors.sectors g.D.Sectors.history stored _ c.self.invariant.ring up (recorded_in version (edit_data c.args.requested))
      recorded refl
      _ (ap (record_of version) (c.deref.ensures.value ∙ c.in-Ok.ensures.text)) c.append_to_both.new.disk (c.append_to_both.ensures.frame honest)
      call (Ok c.in-Ok-append_to_both.number) tt (c.append_to_both.ensures.any_moment (stored_records stored) honest at));
  acknowledged = (λ stored honest up.
      let version = c.self.inside.version in
      let recorded : IsRecorded (recorded_in version (edit_data c.args.requested)) =
      record { fits = c.in-Ok.ensures.record.fits; edit = c.in-Ok.ensures.record.edit } in
      let at = up_is_at g.D.Sectors.sectors g.D.Sectors.history stored _ c.self.invariant.ring up in
      let last : c.make_edit.new.self.last ≡ c.append_to_both.new.self.last =
      omega (arith, c.make_edit.ensures.last, c.in-Ok-append_to_both.ensures.number, c.in-Ok-append_to_both.ensures.last) in
      up_with_edit g.D.Sectors.sectors g.D.Sectors.history stored _ c.self.invariant.ring up (recorded_in version (edit_data c.args.requested)) recorded refl
      _ (ap (record_of version) (c.deref.ensures.value ∙ c.in-Ok.ensures.text)) c.append_to_both.new.disk (c.append_to_both.ensures.frame honest)
      _ refl c.append_to_both.ensures.disk.same_count refl c.append_to_both.ensures.same (c.in-Ok-append_to_both.ensures.acknowledged (stored_records stored) honest at)
      (c.make_edit.ensures.map ∙ ap (edited c.prepare.new.cached.features) c.in-Ok.ensures.prepared
      ∙ ap (λ m. edited m.features (edit_data c.args.requested)) c.prepare.ensures.same)
      (since_on c.self.inside.map c.prepare.new.cached c.make_edit.new.self c.self.inside.journal.last c.append_to_both.new.self.last c.self.invariant.last_is
      c.prepare.ensures.same last c.make_edit.ensures.since)
      (now_on c.make_edit.new.self c.append_to_both.new.self.last last c.make_edit.ensures.now)
      (right_on c.self.inside.map c.prepare.new.cached c.make_edit.new.self c.self.inside.journal.last c.append_to_both.new.self.last c.self.invariant.last_is
      c.prepare.ensures.same last c.make_edit.ensures.reads) refl refl refl refl refl
      (same_drafted c.self.inside.moment c.make_edit.new.moment c.self.inside.draft c.make_edit.ensures.moment) refl refl (c.append_to_both.ensures.reads honest)
      (λ edits shows. shows_appended (g.D.Sectors.history c.self.inside.disk) (g.D.Sectors.history c.append_to_both.new.disk)
      _ _ edits (recorded_in c.self.inside.version (edit_data c.args.requested)) _
      (ap (record_of c.self.inside.version) (c.deref.ensures.value ∙ c.in-Ok.ensures.text))
      (record { recorded = record { fits = c.in-Ok.ensures.record.fits; edit = c.in-Ok.ensures.record.edit }; version_is = omega arith })
      refl c.in-Ok-append_to_both.ensures.last c.append_to_both.ensures.back c.append_to_both.ensures.later
      (c.in-Ok-append_to_both.ensures.older (map record_for edits) honest shows.records) (c.in-Ok-append_to_both.ensures.full (map record_for edits) honest shows.records) shows));
  refused = λ stored honest up. tt;
  steps = λ honest. subst (λ (t : List ℕ). TakesSteps (parts_of (length t)) (g.D.Sectors.history c.self.inside.disk) (g.D.Sectors.history c.append_to_both.new.disk))
      (c.deref.ensures.value ∙ c.in-Ok.ensures.text) (c.in-Ok-append_to_both.ensures.steps honest);
})

-- a fault that isn't the disk's leaves all as it was
unchanged : (g : _) (c : goal.After-drop-requested-2 g) → c.fail.result ≢ Device → c.fail.new.self ≡ service_view c.self.inside
unchanged g c = refused_unchanged c.self.inside c.append_to_both.new.disk c.append_to_both.new.self c.append_to_both.new.kept c.prepare.new.cached c.fail.new.self c.in-Err-append_to_both.fault c.fail.result
    c.fail.ensures.told c.in-Err-append_to_both.ensures.refused c.in-Err-append_to_both.ensures.refused_kept c.in-Err-append_to_both.ensures.unchanged c.prepare.ensures.same c.fail.ensures.other

pub returns-clause-takes : goal.returns-clause-takes
returns-clause-takes g c = rw (← c.self.view_is) (λ call. record {
  size = ap (λ s. s.size) c.fail.ensures.same;
  publication = tt;
  drafting = ap (λ s. s.drafting) c.fail.ensures.same;
  asked = subst (λ d. MayWrite g.D.Sectors.sectors g.D.Sectors.honest c.self.inside.disk d) (sym (ap (λ s. s.disk) c.fail.ensures.same))
      c.append_to_both.ensures.disk;
  failed = subst (λ d. CountsDevice c.fail.result (g.D.Sectors.faults c.self.inside.disk) (g.D.Sectors.faults d))
      (sym (ap (λ s. s.disk) c.fail.ensures.same))
      (append_counts c.self.inside.journal _ _ _ c.in-Err-append_to_both.fault c.fail.result c.fail.ensures.told c.in-Err-append_to_both.ensures.fault);
  unwritten = λ other. ap (λ s. s.disk) (unchanged g c other);
  unchanged = unchanged g c;
  touches = ap (λ s. s.touched) c.fail.ensures.same ∙ ap (λ m. m.touched) c.prepare.ensures.same;
  knows = same_known c.self.inside.map c.prepare.new.cached c.self.inside.journal.last c.append_to_both.new.self.last c.fail.new.self
      c.prepare.ensures.same (ap (λ (j : Journal). j.last) c.in-Err-append_to_both.ensures.unchanged) (ap (λ s. s.features) c.fail.ensures.same)
      (ap (λ s. s.touched) c.fail.ensures.same) (ap (λ s. s.journal.last) c.fail.ensures.same);
  cached = ap (λ s. s.kept) c.fail.ensures.same ∙ ap (λ m. m.kept) c.prepare.ensures.same;
  keeps_archive = append_keeps g.D.Sectors.honest g.D.Sectors.history _ _ (ap (λ s. s.size) c.fail.ensures.same)
      (ap (λ s. s.generation) c.fail.ensures.same) (ap (λ s. s.snapshot_len) c.fail.ensures.same) (ap (λ s. s.archive_len) c.fail.ensures.same)
      c.self.invariant.area
      (ring_of c.self.inside.journal) c.self.invariant.ring c.self.inside.journal.place c.self.inside.journal.used c.append_to_both.new.disk
      (ap (λ s. s.disk) c.fail.ensures.same) c.append_to_both.ensures.reads
      (same_stays c.self.inside.journal c.fail.new.self.journal (ap (λ s. s.journal) c.fail.ensures.same ∙ c.in-Err-append_to_both.ensures.unchanged))
      (λ honest offset lt. c.append_to_both.ensures.reads honest (sector_at (ring_of c.self.inside.journal) (c.self.inside.journal.place + offset))
      (in_use_taken c.self.inside.journal offset lt));
  shows = λ edits shows.
      let parts = places_for (recorded_in c.self.inside.version (edit_data c.args.requested)) in
      let need = (ap (λ (t : List ℕ). parts_of (length t)) (c.deref.ensures.value ∙ c.in-Ok.ensures.text)) in
      subst (λ s. g.D.Sectors.honest s.disk → StillShows (g.D.Sectors.history s.disk) (service_view c.self.inside) s edits [] parts) (sym c.fail.ensures.same)
      (λ honest. shows_refused (g.D.Sectors.history c.self.inside.disk) (g.D.Sectors.history c.append_to_both.new.disk) _ _ edits parts refl c.in-Err-append_to_both.ensures.unchanged
      c.append_to_both.ensures.back c.append_to_both.ensures.later (c.in-Err-append_to_both.ensures.still_older (map record_for edits) honest shows.records)
      (subst (λ (n : ℕ). (c.append_to_both.new.kept.edits ≡ c.self.inside.kept_journal.edits)
      ⊎ IsFull c.append_to_both.new.kept (c.append_to_both.new.kept.used + n)) need
      (c.in-Err-append_to_both.ensures.still_full (map record_for edits) honest shows.records)) shows);
  keeps_areas = rw (ap (λ s. s.disk) c.fail.ensures.same) (λ generation honest. append_area c.self.inside.layout.sectors generation _ _
      (ring_of c.self.inside.journal) c.self.invariant.ring c.self.inside.journal.place c.self.inside.journal.used (c.append_to_both.ensures.reads honest));
  any_moment = rw (ap (λ s. s.disk) c.fail.ensures.same) (λ stored honest up.
      let version = c.self.inside.version in
      let recorded : IsRecorded (recorded_in version (edit_data c.args.requested)) =
      record { fits = c.in-Ok.ensures.record.fits; edit = c.in-Ok.ensures.record.edit } in
      let at = up_is_at g.D.Sectors.sectors g.D.Sectors.history stored _ c.self.invariant.ring up in
      refused_any_moment g.D.Sectors.sectors g.D.Sectors.history stored _ c.self.invariant.ring up (recorded_in version (edit_data c.args.requested))
      recorded refl
      _ (ap (record_of version) (c.deref.ensures.value ∙ c.in-Ok.ensures.text)) c.append_to_both.new.disk (c.append_to_both.ensures.frame honest)
      call c.in-Err-append_to_both.fault c.fail.result c.fail.ensures.told c.in-Err-append_to_both.ensures.refused
      (c.append_to_both.ensures.any_moment (stored_records stored) honest at));
  acknowledged = λ stored honest up. tt;
  refused = λ stored honest up. (λ other.
      subst (λ s. IsUp (g.D.Sectors.sectors s.disk) (g.D.Sectors.history s.disk) stored s) (sym (unchanged g c other)) up);
  steps = λ honest. tt;
})

pub prepare-requires-clause-allowed : goal.prepare-requires-clause-allowed
prepare-requires-clause-allowed g c = c.requires.allowed

pub prepare-requires-clause-fits : goal.prepare-requires-clause-fits
prepare-requires-clause-fits g c = subst (λ s. FitsVersion s.version (edit_data c.args.requested)) (sym c.self.view_is) c.requires.fits

pub invariant_of-self : goal.invariant_of-self
invariant_of-self g c = refused_service c.self.inside.journal c.self.inside.kept_journal c.self.inside.map c.prepare.new.cached refl refl
    c.self.invariant.back c.prepare.ensures.same c.self.invariant

pub invariant_of-self-in-Err-append_to_both : goal.invariant_of-self-in-Err-append_to_both
invariant_of-self-in-Err-append_to_both g c = refused_service c.append_to_both.new.self c.append_to_both.new.kept c.self.inside.map c.prepare.new.cached
    c.append_to_both.ensures.disk.same_count c.in-Err-append_to_both.ensures.unchanged c.append_to_both.ensures.back c.prepare.ensures.same c.self.invariant

pub returns-in-Err-clause-machine : goal.returns-in-Err-clause-machine
returns-in-Err-clause-machine g c = rw (← c.self.view_is) (λ known call can allocates. (
  ap (λ s. s.broken) c.self.view_is ∙ c.requires.unbroken,
  (allocates, can),
  ap (λ m. state_of known (service_view (record c.self.inside { map = m }))) c.prepare.ensures.same,
))

pub make_edit-requires-clause-later : goal.make_edit-requires-clause-later
make_edit-requires-clause-later g c =
    append_later _ _ _ (ap (λ m. m.last) c.prepare.ensures.same ∙ c.self.invariant.last_is) c.in-Ok-append_to_both.ensures.number

pub returns-in-Ok-append_to_both-clause-machine : goal.returns-in-Ok-append_to_both-clause-machine
returns-in-Ok-append_to_both-clause-machine g c = rw (← c.self.view_is) (λ known call can allocates.
    let need = ap (λ (t : List ℕ). parts_of (length t)) (c.deref.ensures.value ∙ c.in-Ok.ensures.text) in
    let places = ap (λ (r : Ring). r.places) c.append_to_both.ensures.same.0 in
    let later = c.make_edit.ensures.map ∙ ap (edited c.prepare.new.cached.features) c.in-Ok.ensures.prepared
    ∙ ap (λ m. edited m.features (edit_data c.args.requested)) c.prepare.ensures.same in
    record {
      unbroken = ap (λ s. s.broken) c.self.view_is ∙ c.requires.unbroken;
      can = can;
      room = append_room _ _ _ _ _ _ c.append_to_both.new.self.room places c.in-Ok-append_to_both.ensures.used need;
      told = c.in-Ok-append_to_both.ensures.number;
      made = λ i. record (state_of known (service_view c.self.inside)) {
        features = later i;
        last = c.in-Ok-append_to_both.ensures.last i;
        free = append_free _ _ _ _ _ _ places c.in-Ok-append_to_both.ensures.used need i;
      };
    })

pub returns-clause-machine : goal.returns-clause-machine
returns-clause-machine g c = rw (← c.self.view_is) (λ known call can allocates.
    let need = ap (λ (t : List ℕ). parts_of (length t)) (c.deref.ensures.value ∙ c.in-Ok.ensures.text) in
    let e = recorded_in c.self.inside.version (edit_data c.args.requested) in
    subst (λ f. AnswersEdit (state_of known (service_view c.self.inside)) call e (Err f) (state_of known c.fail.new.self)) (sym c.fail.ensures.told)
    (append_refuses known c.self.inside (state_of known c.fail.new.self) call e _ _ (ap (λ s. s.broken) c.self.view_is ∙ c.requires.unbroken)
    can.version_is can.accepts can.wanted c.in-Err-append_to_both.fault
    (subst (λ (n : ℕ). IsAppendFault c.self.inside.journal n (g.D.Sectors.faults c.self.inside.disk) (g.D.Sectors.faults c.append_to_both.new.disk)
    c.in-Err-append_to_both.fault) need c.in-Err-append_to_both.ensures.fault)
    (λ other. ap (state_of known) (c.fail.ensures.other other)
    ∙ (λ i. state_of known (service_view (record c.self.inside { journal = c.in-Err-append_to_both.ensures.unchanged i; map = c.prepare.ensures.same i }))))
    (λ device. ap (state_of known) c.fail.ensures.same
    ∙ (λ i. record (state_of known (service_view (record c.self.inside {
      journal = c.in-Err-append_to_both.ensures.unchanged i;
      map = c.prepare.ensures.same i;
    }))) {
      publication = option_map (going_of known.publishing) ((c.fail.ensures.device device).0 i);
      broken = (c.fail.ensures.device device).1 i;
    }))))

pub append_to_both-requires-clause-back : goal.append_to_both-requires-clause-back
append_to_both-requires-clause-back g c = c.self.invariant.back
