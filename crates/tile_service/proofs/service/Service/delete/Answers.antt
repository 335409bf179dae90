use Rattle.std.specs.Prelude.{IsSome, option_map}
use Rattle.std.proofs.Common.{◌≡◌, ◌≢◌, ◌⊎◌, ◌+◌, map, ◌∙◌, Ok, Err, ℕ, List, [], ◌∷◌, refl, sym, ap, subst, arith, rules, length}
use Rattle.edit_journal.specs.Kept.{IsFull}
use Rattle.edit_journal.specs.Appends.{ring_of, IsAppendFault, TakesSteps}
use Rattle.edit_journal.specs.Records.{IsRecordLength, parts_of, record_of}
use Rattle.edit_journal.specs.Ring.{Ring, sector_at}
use Rattle.edit_text.specs.Recorded.{text_in}
use Rattle.feature_model.specs.Data.{delete}
use Rattle.feature_model.specs.Limits.{NumberFits}
use Rattle.feature_store.specs.Store.{FeatureMap, feature_at, snapshot}
use Rattle.sector_disk.specs.Asked.{MayWrite}
use Rattle.tile_service.specs.Inside.{service_view}
use Rattle.tile_service.specs.Machine.{places_for}
use Rattle.tile_service.specs.Machine.{single, recorded_change, AnswersEdit}
use Rattle.tile_service.specs.Service.{CountsDevice, StillShows, IsUp, going_of, state_of}
use Rattle.tile_service.specs.Stored.{record_for, stored_records}
use Rattle.tile_service.specs.declared.fault.ServiceFault.TheVariants.{Broken, NotFound, Device}
use Rattle.tile_service.proofs.Runs.DeviceFaults.{other_fault}
use Rattle.tile_service.proofs.Tiles.EarlierMaps.{since_on, now_on, right_on}
use Rattle.tile_service.proofs.Tiles.Tags.{same_known}
use Rattle.edit_journal.specs.declared.journal.Journal.{Journal}
use Rattle.tile_service.proofs.Edits.EditStored.{up_is_at, refuses_edit, append_counts, refused_unchanged, append_any_moment, refused_any_moment, up_with_edit}
use Rattle.tile_service.proofs.Edits.ServiceAfter.{service_on, refused_service, same_drafted, append_later, append_room, append_free, append_refuses}
use Rattle.tile_service.proofs.Archive.Unchanged.{append_keeps, append_area, more_stays, same_stays}
use Rattle.edit_journal.proofs.ReadAgain.{in_use_taken}
use Rattle.tile_service.proofs.Edits.ShownEdits.{shows_appended, shows_refused}
use Rattle.tile_service.proofs.Edits.Limits.{delete_recorded, text_length, short_after_edit}
use Rattle.tile_service.proofs.service.Service.delete.Goals as goal

pub returns-then-self-clause-takes : goal.returns-then-self-clause-takes
returns-then-self-clause-takes g c = rw (← c.self.view_is)
    (refuses_edit g.D.Sectors.sectors g.D.Sectors.honest g.D.Sectors.history g.D.Sectors.faults _ _ single
    (recorded_change c.self.inside.version (delete c.args.id)) Broken refl (other_fault Broken refl))

pub returns-then-not-has-clause-takes : goal.returns-then-not-has-clause-takes
returns-then-not-has-clause-takes g c = rw (← c.self.view_is)
    (refuses_edit g.D.Sectors.sectors g.D.Sectors.honest g.D.Sectors.history g.D.Sectors.faults _ _ single
    (recorded_change c.self.inside.version (delete c.args.id)) NotFound refl (other_fault NotFound refl))

pub append_to_both-requires-clause-text : goal.append_to_both-requires-clause-text
append_to_both-requires-clause-text g c =
    let version = c.self.inside.version in
    let fits : NumberFits c.args.id = c.has.ensures.number c.if-not-has.false in
    subst (λ (t : List ℕ). IsRecordLength version (length t)) (sym (c.deletion_text-text.ensures c.args.id c.delete_edit_text-text.ensures))
    (text_length version (delete c.args.id ∷ []) c.self.invariant.version_is (delete_recorded version c.args.id c.self.invariant.version_is fits).edit.allowed)

pub invariant_of-self : goal.invariant_of-self
invariant_of-self g c =
    let version = c.self.inside.version in
    let fits : NumberFits c.args.id = c.has.ensures.number c.if-not-has.false in
    let text : c.deletion_text-text.result.now ≡ text_in version (delete c.args.id ∷ []) =
    c.deletion_text-text.ensures c.args.id c.delete_edit_text-text.ensures in
    service_on c.self.inside.layout.sectors version c.self.inside.root c.self.inside.journal c.append_to_both.new.self c.append_to_both.ensures.same.0 c.append_to_both.ensures.same.1
    (length c.deletion_text-text.result.now) (subst (λ (t : List ℕ). IsRecordLength version (length t)) (sym text)
    (text_length version (delete c.args.id ∷ []) c.self.invariant.version_is (delete_recorded version c.args.id c.self.invariant.version_is fits).edit.allowed))
    c.in-Ok.ensures.used c.in-Ok.ensures.last c.self.inside.map c.remove.new.self
    (omega (arith, c.remove.ensures.last, c.in-Ok.ensures.number, c.in-Ok.ensures.last))
    (λ area places was. omega (
      arith,
      ap (λ m. length (snapshot m)) c.remove.ensures.map,
      ap (λ (t : List ℕ). parts_of (length t)) text,
      short_after_edit version c.self.inside.map.features (delete c.args.id ∷ []) area places c.self.invariant.version_is was,
    ))
    _ _ _ _ _ _ _ _ _ c.append_to_both.ensures.disk.same_count c.remove.ensures.moment
    c.remove.ensures.as_of c.append_to_both.ensures.back c.self.invariant

pub returns-in-Ok-clause-takes : goal.returns-in-Ok-clause-takes
returns-in-Ok-clause-takes g c = rw (← c.self.view_is) (record {
  size = refl;
  publication = refl;
  drafting = same_drafted c.self.inside.moment c.remove.new.moment c.self.inside.draft c.remove.ensures.moment;
  asked = c.append_to_both.ensures.disk;
  failed = c.in-Ok.ensures.faults;
  unwritten = tt;
  unchanged = tt;
  touches = c.remove.ensures.stays;
  knows =
      let last : c.remove.new.self.last ≡ c.append_to_both.new.self.last = omega (arith, c.remove.ensures.last, c.in-Ok.ensures.number, c.in-Ok.ensures.last) in
      since_on c.self.inside.map c.self.inside.map c.remove.new.self c.self.inside.journal.last c.append_to_both.new.self.last c.self.invariant.last_is refl last
      c.remove.ensures.since;
  cached = c.remove.ensures.kept;
  keeps_archive = append_keeps g.D.Sectors.honest g.D.Sectors.history _ _ refl refl refl refl c.self.invariant.area
      (ring_of c.self.inside.journal) c.self.invariant.ring c.self.inside.journal.place c.self.inside.journal.used c.append_to_both.new.disk refl
      c.append_to_both.ensures.reads
      (more_stays c.self.inside.journal c.append_to_both.new.self c.append_to_both.ensures.same.0 c.append_to_both.ensures.same.1 (omega (arith, c.in-Ok.ensures.used)))
      (λ honest offset lt. c.append_to_both.ensures.reads honest (sector_at (ring_of c.self.inside.journal) (c.self.inside.journal.place + offset))
      (in_use_taken c.self.inside.journal offset lt));
  shows = λ edits shows honest. shows_appended (g.D.Sectors.history c.self.inside.disk) (g.D.Sectors.history c.append_to_both.new.disk) _ _ edits
      (recorded_change c.self.inside.version (delete c.args.id)) _
      (ap (record_of c.self.inside.version) (c.deletion_text-text.ensures c.args.id c.delete_edit_text-text.ensures))
      (record { recorded = delete_recorded c.self.inside.version c.args.id c.self.invariant.version_is (c.has.ensures.number c.if-not-has.false); version_is = omega arith })
      refl c.in-Ok.ensures.last c.append_to_both.ensures.back c.append_to_both.ensures.later
      (c.in-Ok.ensures.older (map record_for edits) honest shows.records) (c.in-Ok.ensures.full (map record_for edits) honest shows.records) shows;
  keeps_areas = λ generation honest. append_area c.self.inside.layout.sectors generation _ _ (ring_of c.self.inside.journal) c.self.invariant.ring
      c.self.inside.journal.place c.self.inside.journal.used (c.append_to_both.ensures.reads honest);
  any_moment = (λ stored honest up.
      let version = c.self.inside.version in
      let fits : NumberFits c.args.id = c.has.ensures.number c.if-not-has.false in
      let at = up_is_at g.D.Sectors.sectors g.D.Sectors.history stored _ c.self.invariant.ring up in
      append_any_moment g.D.Sectors.sectors g.D.Sectors.history stored _ c.self.invariant.ring up (recorded_change version (delete c.args.id))
      (delete_recorded version c.args.id c.self.invariant.version_is fits) refl
      _ (ap (record_of version) (c.deletion_text-text.ensures c.args.id c.delete_edit_text-text.ensures)) c.append_to_both.new.disk (c.append_to_both.ensures.frame honest)
      single (Ok c.in-Ok.last) tt (c.append_to_both.ensures.any_moment (stored_records stored) honest at));
  acknowledged = (λ stored honest up.
      let version = c.self.inside.version in
      let fits : NumberFits c.args.id = c.has.ensures.number c.if-not-has.false in
      let at = up_is_at g.D.Sectors.sectors g.D.Sectors.history stored _ c.self.invariant.ring up in
      let last : c.remove.new.self.last ≡ c.append_to_both.new.self.last = omega (arith, c.remove.ensures.last, c.in-Ok.ensures.number, c.in-Ok.ensures.last) in
      up_with_edit g.D.Sectors.sectors g.D.Sectors.history stored _ c.self.invariant.ring up (recorded_change version (delete c.args.id))
      (delete_recorded version c.args.id c.self.invariant.version_is fits) refl
      _ (ap (record_of version) (c.deletion_text-text.ensures c.args.id c.delete_edit_text-text.ensures)) c.append_to_both.new.disk (c.append_to_both.ensures.frame honest)
      _ refl c.append_to_both.ensures.disk.same_count refl c.append_to_both.ensures.same (c.in-Ok.ensures.acknowledged (stored_records stored) honest at) c.remove.ensures.map
      (since_on c.self.inside.map c.self.inside.map c.remove.new.self c.self.inside.journal.last c.append_to_both.new.self.last c.self.invariant.last_is refl last
      c.remove.ensures.since)
      (now_on c.remove.new.self c.append_to_both.new.self.last last c.remove.ensures.now)
      (right_on c.self.inside.map c.self.inside.map c.remove.new.self c.self.inside.journal.last c.append_to_both.new.self.last c.self.invariant.last_is refl last
      c.remove.ensures.reads) refl refl refl refl refl
      (same_drafted c.self.inside.moment c.remove.new.moment c.self.inside.draft c.remove.ensures.moment) refl refl (c.append_to_both.ensures.reads honest)
      (λ edits shows. shows_appended (g.D.Sectors.history c.self.inside.disk) (g.D.Sectors.history c.append_to_both.new.disk)
      _ _ edits (recorded_change c.self.inside.version (delete c.args.id)) _
      (ap (record_of c.self.inside.version) (c.deletion_text-text.ensures c.args.id c.delete_edit_text-text.ensures))
      (record { recorded = delete_recorded c.self.inside.version c.args.id c.self.invariant.version_is (c.has.ensures.number c.if-not-has.false); version_is = omega arith })
      refl c.in-Ok.ensures.last c.append_to_both.ensures.back c.append_to_both.ensures.later
      (c.in-Ok.ensures.older (map record_for edits) honest shows.records) (c.in-Ok.ensures.full (map record_for edits) honest shows.records) shows));
  refused = λ stored honest up. tt;
  steps = λ honest. subst (λ (t : List ℕ). TakesSteps (parts_of (length t)) (g.D.Sectors.history c.self.inside.disk) (g.D.Sectors.history c.append_to_both.new.disk))
      (c.deletion_text-text.ensures c.args.id c.delete_edit_text-text.ensures) (c.in-Ok.ensures.steps honest);
})

-- a fault that isn't the disk's leaves all as it was
unchanged : (g : _) (c : goal.After-fail g) → c.fail.result ≢ Device → c.fail.new.self ≡ service_view c.self.inside
unchanged g c = refused_unchanged c.self.inside c.append_to_both.new.disk c.append_to_both.new.self c.append_to_both.new.kept c.self.inside.map c.fail.new.self c.in-Err.fault c.fail.result
    c.fail.ensures.told c.in-Err.ensures.refused c.in-Err.ensures.refused_kept c.in-Err.ensures.unchanged refl c.fail.ensures.other

pub returns-in-Err-clause-takes : goal.returns-in-Err-clause-takes
returns-in-Err-clause-takes g c = rw (← c.self.view_is) (record {
  size = ap (λ s. s.size) c.fail.ensures.same;
  publication = tt;
  drafting = ap (λ s. s.drafting) c.fail.ensures.same;
  asked = subst (λ d. MayWrite g.D.Sectors.sectors g.D.Sectors.honest c.self.inside.disk d) (sym (ap (λ s. s.disk) c.fail.ensures.same))
      c.append_to_both.ensures.disk;
  failed = subst (λ d. CountsDevice c.fail.result (g.D.Sectors.faults c.self.inside.disk) (g.D.Sectors.faults d))
      (sym (ap (λ s. s.disk) c.fail.ensures.same))
      (append_counts c.self.inside.journal _ _ _ c.in-Err.fault c.fail.result c.fail.ensures.told c.in-Err.ensures.fault);
  unwritten = λ other. ap (λ s. s.disk) (unchanged g c other);
  unchanged = unchanged g c;
  touches = ap (λ s. s.touched) c.fail.ensures.same;
  knows = same_known c.self.inside.map c.self.inside.map c.self.inside.journal.last c.append_to_both.new.self.last c.fail.new.self
      refl (ap (λ (j : Journal). j.last) c.in-Err.ensures.unchanged) (ap (λ s. s.features) c.fail.ensures.same)
      (ap (λ s. s.touched) c.fail.ensures.same) (ap (λ s. s.journal.last) c.fail.ensures.same);
  cached = ap (λ s. s.kept) c.fail.ensures.same;
  keeps_archive = append_keeps g.D.Sectors.honest g.D.Sectors.history _ _ (ap (λ s. s.size) c.fail.ensures.same)
      (ap (λ s. s.generation) c.fail.ensures.same) (ap (λ s. s.snapshot_len) c.fail.ensures.same) (ap (λ s. s.archive_len) c.fail.ensures.same)
      c.self.invariant.area
      (ring_of c.self.inside.journal) c.self.invariant.ring c.self.inside.journal.place c.self.inside.journal.used c.append_to_both.new.disk
      (ap (λ s. s.disk) c.fail.ensures.same) c.append_to_both.ensures.reads
      (same_stays c.self.inside.journal c.fail.new.self.journal (ap (λ s. s.journal) c.fail.ensures.same ∙ c.in-Err.ensures.unchanged))
      (λ honest offset lt. c.append_to_both.ensures.reads honest (sector_at (ring_of c.self.inside.journal) (c.self.inside.journal.place + offset))
      (in_use_taken c.self.inside.journal offset lt));
  shows = λ edits shows.
      let parts = places_for (recorded_change c.self.inside.version (delete c.args.id)) in
      let need = (ap (λ (t : List ℕ). parts_of (length t)) (c.deletion_text-text.ensures c.args.id c.delete_edit_text-text.ensures)) in
      subst (λ s. g.D.Sectors.honest s.disk → StillShows (g.D.Sectors.history s.disk) (service_view c.self.inside) s edits [] parts) (sym c.fail.ensures.same)
      (λ honest. shows_refused (g.D.Sectors.history c.self.inside.disk) (g.D.Sectors.history c.append_to_both.new.disk) _ _ edits parts refl c.in-Err.ensures.unchanged
      c.append_to_both.ensures.back c.append_to_both.ensures.later (c.in-Err.ensures.still_older (map record_for edits) honest shows.records)
      (subst (λ (n : ℕ). (c.append_to_both.new.kept.edits ≡ c.self.inside.kept_journal.edits)
      ⊎ IsFull c.append_to_both.new.kept (c.append_to_both.new.kept.used + n)) need
      (c.in-Err.ensures.still_full (map record_for edits) honest shows.records)) shows);
  keeps_areas = rw (ap (λ s. s.disk) c.fail.ensures.same) (λ generation honest. append_area c.self.inside.layout.sectors generation _ _
      (ring_of c.self.inside.journal) c.self.invariant.ring c.self.inside.journal.place c.self.inside.journal.used (c.append_to_both.ensures.reads honest));
  any_moment = rw (ap (λ s. s.disk) c.fail.ensures.same) (λ stored honest up.
      let version = c.self.inside.version in
      let fits : NumberFits c.args.id = c.has.ensures.number c.if-not-has.false in
      let at = up_is_at g.D.Sectors.sectors g.D.Sectors.history stored _ c.self.invariant.ring up in
      refused_any_moment g.D.Sectors.sectors g.D.Sectors.history stored _ c.self.invariant.ring up (recorded_change version (delete c.args.id))
      (delete_recorded version c.args.id c.self.invariant.version_is fits) refl
      _ (ap (record_of version) (c.deletion_text-text.ensures c.args.id c.delete_edit_text-text.ensures)) c.append_to_both.new.disk (c.append_to_both.ensures.frame honest)
      single c.in-Err.fault c.fail.result c.fail.ensures.told c.in-Err.ensures.refused (c.append_to_both.ensures.any_moment (stored_records stored) honest at));
  acknowledged = λ stored honest up. tt;
  refused = λ stored honest up other.
      subst (λ s. IsUp (g.D.Sectors.sectors s.disk) (g.D.Sectors.history s.disk) stored s) (sym (unchanged g c other)) up;
  steps = λ honest. tt;
})

pub returns-then-self-clause-machine : goal.returns-then-self-clause-machine
returns-then-self-clause-machine g c = rw (← c.self.view_is) (λ known. (c.if-self.true, refl))

pub delete_edit_text-text-requires : goal.delete_edit_text-text-requires
delete_edit_text-text-requires g c = c.has.ensures.number c.if-not-has.false

pub invariant_of-self-in-Err : goal.invariant_of-self-in-Err
invariant_of-self-in-Err g c = refused_service c.append_to_both.new.self c.append_to_both.new.kept c.self.inside.map c.self.inside.map
    c.append_to_both.ensures.disk.same_count c.in-Err.ensures.unchanged c.append_to_both.ensures.back refl c.self.invariant

pub same-self : goal.same-self
same-self g c = refl

pub same-self-then-not-has : goal.same-self-then-not-has
same-self-then-not-has g c = refl

pub remove-requires : goal.remove-requires
remove-requires g c = record { later = append_later _ _ _ c.self.invariant.last_is c.in-Ok.ensures.number }

-- with an answer the must-fail edit refused_edit_stands_in_an_image is refused at once
pub returns-in-Ok-clause-machine : goal.returns-in-Ok-clause-machine
returns-in-Ok-clause-machine g c = rw (← c.self.view_is) (λ known.
    let need = ap (λ (t : List ℕ). parts_of (length t)) (c.deletion_text-text.ensures c.args.id c.delete_edit_text-text.ensures) in
    let there = subst (λ (m : FeatureMap). IsSome (feature_at m c.args.id)) c.store.ensures.features (c.has.ensures.found.0 c.if-not-has.false) in
    let places = ap (λ (r : Ring). r.places) c.append_to_both.ensures.same.0 in
    record {
      unbroken = c.if-self.false;
      can = record { version_is = refl; accepts = tt; wanted = there; number = search rules };
      room = append_room _ _ _ _ _ _ c.append_to_both.new.self.room places c.in-Ok.ensures.used need;
      told = c.in-Ok.ensures.number;
      made = λ i. record (state_of known (service_view c.self.inside)) {
        features = c.remove.ensures.map i;
        last = c.in-Ok.ensures.last i;
        free = append_free _ _ _ _ _ _ places c.in-Ok.ensures.used need i;
      };
    })

pub returns-in-Err-clause-machine : goal.returns-in-Err-clause-machine
returns-in-Err-clause-machine g c = rw (← c.self.view_is) (λ known.
    let there = subst (λ (m : FeatureMap). IsSome (feature_at m c.args.id)) c.store.ensures.features (c.has.ensures.found.0 c.if-not-has.false) in
    let need = ap (λ (t : List ℕ). parts_of (length t)) (c.deletion_text-text.ensures c.args.id c.delete_edit_text-text.ensures) in
    let e = recorded_change c.self.inside.version (delete c.args.id) in
    subst (λ f. AnswersEdit (state_of known (service_view c.self.inside)) single e (Err f) (state_of known c.fail.new.self)) (sym c.fail.ensures.told)
    (append_refuses known c.self.inside (state_of known c.fail.new.self) single e _ _ c.if-self.false refl tt there c.in-Err.fault
    (subst (λ (n : ℕ). IsAppendFault c.self.inside.journal n (g.D.Sectors.faults c.self.inside.disk) (g.D.Sectors.faults c.append_to_both.new.disk) c.in-Err.fault) need
    c.in-Err.ensures.fault)
    (λ other. ap (state_of known) (c.fail.ensures.other other)
    ∙ (λ i. state_of known (service_view (record c.self.inside { journal = c.in-Err.ensures.unchanged i }))))
    (λ device. ap (state_of known) c.fail.ensures.same
    ∙ (λ i. record (state_of known (service_view (record c.self.inside { journal = c.in-Err.ensures.unchanged i }))) {
      publication = option_map (going_of known.publishing) ((c.fail.ensures.device device).0 i);
      broken = (c.fail.ensures.device device).1 i;
    }))))

pub append_to_both-requires-clause-back : goal.append_to_both-requires-clause-back
append_to_both-requires-clause-back g c = c.self.invariant.back
