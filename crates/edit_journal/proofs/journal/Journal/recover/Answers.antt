use Rattle.std.proofs.Common.{◌≡◌, List, [], ◌∷◌, ◌++◌, ◌≤◌, ◌+◌, ◌∙◌, refl, sym, ap, subst, arith, length}
use Rattle.std.proofs.Common.{length-append, Err}
use Rattle.std.proofs.lemmas.List.Elements.{All-nil, All-push}
use Rattle.sector_disk.specs.Disk.{History, Image, seen}
use Rattle.sector_disk.proofs.AskedLaws.{reads_on, reads_none}
use Rattle.edit_journal.specs.Records.{RecordData, record_data, records_of, AreUpTo}
use Rattle.edit_journal.specs.Ring.{Ring, RecordStart, AreRecords, places_of, HoldsRecords}
use Rattle.edit_journal.specs.Appends.{ring_of, start_of}
use Rattle.edit_journal.specs.Recovers.{EndsAt, PartsStand, IsDamaged}
use Rattle.edit_journal.proofs.Exits.{passed_on, memory_no_damage}
use Rattle.edit_journal.proofs.Heads.{places_push, records_push}
use Rattle.edit_journal.proofs.Recovers.{no_records, more_than_none}
use Rattle.edit_journal.proofs.Reading.{records_more, records_count, counted, whole_journal, no_journal, not_without, with_next}
use Rattle.edit_journal.proofs.journal.Journal.recover.Given.{Over}
use Rattle.edit_journal.proofs.journal.Journal.recover.Goals as goal

pub loop-records-init : goal.loop-records-init
loop-records-init g c =
    let begun = c.empty-journal.ensures in
    let empty : records_of c.new-records.result.items ≡ [] = ap records_of c.new-records.ensures.items in
    let none : places_of (records_of c.new-records.result.items) ≡ 0 = ap places_of empty in
    let count : length c.new-records.result.items ≡ 0 = ap length c.new-records.ensures.items in
    let ring : Ring = record { first = c.args.first; places = c.args.places } in
    let start : RecordStart = start_of c.args.start.place c.args.start.edits in
    record {
      disk = reads_none c.args.disk.now;
      faults = refl;
      inside = omega (arith, c.requires.ring, ap (λ (r : Ring). r.first) begun.ring, ap (λ (r : Ring). r.places) begun.ring);
      ring = begun.ring;
      start = begun.start;
      used = begun.none.0 ∙ sym none;
      last = omega (arith, begun.none.1, count);
      lengths = subst AreRecords (sym empty) tt;
      versions = subst (AreUpTo c.args.version) (sym empty) (All-nil (λ (r : RecordData). r.version ≤ c.args.version));
      held = λ honest. subst (λ (rs : List RecordData). HoldsRecords ring start rs (seen (g.D.Sectors.history c.args.disk.now))) (sym empty)
          (no_records ring start (seen (g.D.Sectors.history c.args.disk.now)) (omega (arith, begun.number, begun.none.1)));
    }

pub loop-records-preserved : goal.loop-records-preserved
loop-records-preserved g c =
    let inv = c.loop-records.invariant in
    let ok = c.in_ok-next.ensures in
    let old = c.loop-records.journal in
    let next = c.in-Some.next in
    let added = c.with_record-journal.ensures in
    let rs : List RecordData = records_of c.loop-records.records.items in
    let image : Image = seen (g.D.Sectors.history c.args.disk.now) in
    let ring : Ring = record { first = c.args.first; places = c.args.places } in
    let start : RecordStart = start_of c.args.start.place c.args.start.edits in
    let fits = rw c.in-Some.is at ok.fits in
    let pushed : records_of c.push.new.self.items ≡ rs ++ record_data next ∷ [] =
    ap records_of c.in-Ok.ensures.items ∙ records_more c.loop-records.records.items next in
    let counts : length c.push.new.self.items ≡ length c.loop-records.records.items + 1 =
    ap length c.in-Ok.ensures.items ∙ length-append c.loop-records.records.items (next ∷ []) in
    record {
      disk = reads_on inv.disk ok.disk;
      faults = ok.failed ∙ inv.faults;
      inside = omega (arith, inv.inside, ok.disk.same_count, ap (λ (r : Ring). r.first) added.same.0, ap (λ (r : Ring). r.places) added.same.0);
      ring = added.same.0 ∙ inv.ring;
      start = added.same.1 ∙ inv.start;
      used = omega (arith, added.used, inv.used, c.len.ensures, places_push rs (record_data next), ap places_of pushed);
      last = omega (arith, added.last, inv.last, counts);
      lengths = subst AreRecords (sym pushed) (records_push rs (record_data next) inv.lengths fits.0);
      versions = subst (AreUpTo c.args.version) (sym pushed)
          (All-push (λ (r : RecordData). r.version ≤ c.args.version) rs (record_data next) inv.versions fits.1);
      held = λ honest.
          let before = ok.disk.was_honest honest in
          let stands : PartsStand (ring_of old) old.place old.used (old.last + 1) (record_data next) image =
          subst (λ (h : History). PartsStand (ring_of old) old.place old.used (old.last + 1) (record_data next) (seen h))
          (inv.disk.same_history before) (rw c.in-Some.is at ok.next honest) in
          subst (λ (rs : List RecordData). HoldsRecords ring start rs image) (sym pushed)
          (with_next ring (ring_of old) start old.place old.edits old.used old.last rs image inv.ring inv.start inv.used
          (omega (arith, inv.last, ap (λ (s : RecordStart). s.number) inv.start, records_count c.loop-records.records.items))
          (inv.held before) (record_data next) fits.0 fits.2 fits.3 stands);
    }

pub loop-records-smaller : goal.loop-records-smaller
loop-records-smaller g c =
    let ok = c.in_ok-next.ensures in
    let old = c.loop-records.journal in
    let next = c.in-Some.next in
    let added = c.with_record-journal.ensures in
    let fits = rw c.in-Some.is at ok.fits in
    omega (arith, added.used, c.len.ensures, fits.0.1, fits.2, ap (λ (r : Ring). r.places) added.same.0)

-- the fault of the record that isn't read is returned
unread : (g : Over) (c : goal.After-drop-records g) → c.from_residual.result ≡ Err c.in_err-next.field-0.0
unread g c = passed_on c.from_residual.result c.in_err-next.field-0.0 c.in_err-next.field-0.0 c.from_residual.ensures.1 refl

pub returns-in_err-next-clause-failed : goal.returns-in_err-next-clause-failed
returns-in_err-next-clause-failed g c =
    rw (unread g c, ← c.loop-records.invariant.faults) c.in_err-next.ensures.failed

pub returns-in_err-next-clause-damaged : goal.returns-in_err-next-clause-damaged
returns-in_err-next-clause-damaged g c rs honest =
    let inv = c.loop-records.invariant in
    let told = c.in_err-next.ensures in
    let before = told.disk.was_honest honest in
    let old = c.loop-records.journal in
    let image : Image = seen (g.D.Sectors.history c.args.disk.now) in
    let ring : Ring = record { first = c.args.first; places = c.args.places } in
    let start : RecordStart = start_of c.args.start.place c.args.start.edits in
    rw (unread g c) (λ is. no_journal ring (ring_of old) start old.place old.edits old.used old.last (records_of c.loop-records.records.items) image inv.ring
    inv.start inv.used (omega (arith, inv.last, ap (λ (s : RecordStart). s.number) inv.start, records_count c.loop-records.records.items))
    (inv.held before) c.args.version inv.versions
    (subst (λ (h : History). IsDamaged c.args.version (ring_of old) old.place old.used (old.last + 1) (seen h)) (inv.disk.same_history before)
    (told.damaged honest is)) rs)

pub returns-in_err-next-clause-memory : goal.returns-in_err-next-clause-memory
returns-in_err-next-clause-memory g c honest =
    let inv = c.loop-records.invariant in
    let told = c.in_err-next.ensures in
    let before = told.disk.was_honest honest in
    let old = c.loop-records.journal in
    let image : Image = seen (g.D.Sectors.history c.args.disk.now) in
    let ring : Ring = record { first = c.args.first; places = c.args.places } in
    let start : RecordStart = start_of c.args.start.place c.args.start.edits in
    rw (unread g c) (λ is. not_without ring (ring_of old) start old.place old.edits old.used old.last (records_of c.loop-records.records.items) image inv.ring
    inv.start inv.used (omega (arith, inv.last, ap (λ (s : RecordStart). s.number) inv.start, records_count c.loop-records.records.items))
    (inv.held before) c.args.version inv.versions
    (subst (λ (h : History). EndsAt c.args.version (ring_of old) old.place old.used (old.last + 1) (seen h) → ⊥) (inv.disk.same_history before)
    (told.memory honest is)))

pub returns-in-Err-clause-memory : goal.returns-in-Err-clause-memory
returns-in-Err-clause-memory g c honest is journal =
    let inv = c.loop-records.invariant in
    let ok = c.in_ok-next.ensures in
    let old = c.loop-records.journal in
    let next = c.in-Some.next in
    let rs : List RecordData = records_of c.loop-records.records.items in
    let image : Image = seen (g.D.Sectors.history c.args.disk.now) in
    let ring : Ring = record { first = c.args.first; places = c.args.places } in
    let start : RecordStart = start_of c.args.start.place c.args.start.edits in
    let fits = rw c.in-Some.is at ok.fits in
    let before = ok.disk.was_honest honest in
    let stands : PartsStand (ring_of old) old.place old.used (old.last + 1) (record_data next) image =
    subst (λ (h : History). PartsStand (ring_of old) old.place old.used (old.last + 1) (record_data next) (seen h))
    (inv.disk.same_history before) (rw c.in-Some.is at ok.next honest) in
    more_than_none ring image c.args.version start rs (record_data next) journal
    (with_next ring (ring_of old) start old.place old.edits old.used old.last rs image inv.ring inv.start inv.used
    (omega (arith, inv.last, ap (λ (s : RecordStart). s.number) inv.start, records_count c.loop-records.records.items))
    (inv.held before) (record_data next) fits.0 fits.2 fits.3 stands)
    (All-push (λ (r : RecordData). r.version ≤ c.args.version) rs (record_data next) inv.versions fits.1)

pub returns-clause-counted : goal.returns-clause-counted
returns-clause-counted g c =
    let inv = c.loop-records.invariant in
    counted (records_of c.loop-records.records.items) c.loop-records.journal.edits c.loop-records.journal.used c.loop-records.journal.last inv.lengths inv.used
    (omega (arith, inv.last, ap (λ (s : RecordStart). s.number) inv.start, records_count c.loop-records.records.items))

pub returns-clause-found : goal.returns-clause-found
returns-clause-found g c honest =
    let inv = c.loop-records.invariant in
    let ok = c.in_ok-next.ensures in
    let before = ok.disk.was_honest honest in
    let old = c.loop-records.journal in
    let image : Image = seen (g.D.Sectors.history c.args.disk.now) in
    let ring : Ring = record { first = c.args.first; places = c.args.places } in
    let start : RecordStart = start_of c.args.start.place c.args.start.edits in
    whole_journal ring (ring_of old) start old.place old.edits old.used old.last (records_of c.loop-records.records.items) image inv.ring inv.start inv.used
    (omega (arith, inv.last, ap (λ (s : RecordStart). s.number) inv.start, records_count c.loop-records.records.items)) (inv.held before)
    c.args.version inv.versions
    (subst (λ (h : History). EndsAt c.args.version (ring_of old) old.place old.used (old.last + 1) (seen h)) (inv.disk.same_history before)
    (rw c.in_default.is at ok.next honest))

pub read_record-requires : goal.read_record-requires
read_record-requires g c = record { ring = c.loop-records.invariant.inside }

pub returns-in_err-next-clause-disk : goal.returns-in_err-next-clause-disk
returns-in_err-next-clause-disk g c = reads_on c.loop-records.invariant.disk c.in_err-next.ensures.disk

pub returns-in_err-next-clause-same : goal.returns-in_err-next-clause-same
returns-in_err-next-clause-same g c = rw (unread g c) tt

pub returns-in_err-next-clause-used : goal.returns-in_err-next-clause-used
returns-in_err-next-clause-used g c = rw (unread g c) tt

pub returns-in_err-next-clause-last : goal.returns-in_err-next-clause-last
returns-in_err-next-clause-last g c = rw (unread g c) tt

pub returns-in_err-next-clause-counted : goal.returns-in_err-next-clause-counted
returns-in_err-next-clause-counted g c = rw (unread g c) tt

pub returns-in_err-next-clause-versions : goal.returns-in_err-next-clause-versions
returns-in_err-next-clause-versions g c = rw (unread g c) tt

pub returns-in_err-next-clause-found : goal.returns-in_err-next-clause-found
returns-in_err-next-clause-found g c honest = rw (unread g c) tt

pub overflow_cast-len : goal.overflow_cast-len
overflow_cast-len g c =
    let fits = rw c.in-Some.is at c.in_ok-next.ensures.fits in
    omega (arith, c.len.ensures, fits.0)

pub with_record-journal-requires-clause-length : goal.with_record-journal-requires-clause-length
with_record-journal-requires-clause-length g c =
    let fits = rw c.in-Some.is at c.in_ok-next.ensures.fits in
    omega (arith, c.len.ensures, fits.0)

pub with_record-journal-requires-clause-room : goal.with_record-journal-requires-clause-room
with_record-journal-requires-clause-room g c =
    let fits = rw c.in-Some.is at c.in_ok-next.ensures.fits in
    omega (arith, c.len.ensures, fits.2)

pub with_record-journal-requires-clause-next : goal.with_record-journal-requires-clause-next
with_record-journal-requires-clause-next g c =
    let fits = rw c.in-Some.is at c.in_ok-next.ensures.fits in
    omega (arith, fits.3)

pub returns-in-Err-clause-disk : goal.returns-in-Err-clause-disk
returns-in-Err-clause-disk g c = reads_on c.loop-records.invariant.disk c.in_ok-next.ensures.disk

pub returns-in-Err-clause-failed : goal.returns-in-Err-clause-failed
returns-in-Err-clause-failed g c = c.in_ok-next.ensures.failed ∙ c.loop-records.invariant.faults

pub returns-in-Err-clause-damaged : goal.returns-in-Err-clause-damaged
returns-in-Err-clause-damaged g c rs honest is journal = absurd (memory_no_damage is)

pub returns-clause-disk : goal.returns-clause-disk
returns-clause-disk g c = reads_on c.loop-records.invariant.disk c.in_ok-next.ensures.disk

pub returns-clause-failed : goal.returns-clause-failed
returns-clause-failed g c = c.in_ok-next.ensures.failed ∙ c.loop-records.invariant.faults

pub returns-clause-same : goal.returns-clause-same
returns-clause-same g c = (c.loop-records.invariant.ring, c.loop-records.invariant.start)

pub returns-clause-used : goal.returns-clause-used
returns-clause-used g c = c.loop-records.invariant.used

pub returns-clause-last : goal.returns-clause-last
returns-clause-last g c = c.loop-records.invariant.last

pub returns-clause-versions : goal.returns-clause-versions
returns-clause-versions g c = c.loop-records.invariant.versions
