use Rattle.std.proofs.Common.{◌≡◌, ◌∙◌, ◌+◌, inl, inr, Err, refl, sym, ap, subst, arith, ℕ, List}
use Rattle.sector_disk.specs.Disk.{History, Image, seen}
use Rattle.sector_disk.proofs.AskedLaws.{reads_on, reads_none}
use Rattle.edit_journal.specs.Records.{record_of, IsRecordLength, HasFront, IsExpectedHead}
use Rattle.edit_journal.specs.Ring.{Ring, sector_at}
use Rattle.edit_journal.specs.Appends.{ring_of}
use Rattle.edit_journal.specs.Recovers.{FrontsStand, PartsStand}
use Rattle.edit_journal.specs.declared.fault.JournalFault.TheVariants.{Device}
use Rattle.edit_journal.proofs.Exits.{passed_on, device_no_damage, device_no_memory, memory_no_damage}
use Rattle.edit_journal.proofs.Reading.{damage, no_end, none_by_head, none_by_room, none_by_bodies}
use Rattle.edit_journal.proofs.recovering.read_record.Given.{Over}
use Rattle.edit_journal.proofs.recovering.read_record.Goals as goal
use Rattle.edit_journal.proofs.recovering.read_record.Goals.{in_default-via-in-Some-head_in+else-head-free, in_default-via-in_default}

pub returns-in-Err-clause-damaged : goal.returns-in-Err-clause-damaged
returns-in-Err-clause-damaged g c honest is =
    let ring : Ring = ring_of c.args.journal.now in
    let place : ℕ = c.args.journal.now.place in
    let used : ℕ = c.args.journal.now.used in
    let number : ℕ = c.args.journal.now.last + 1 in
    let image : Image = seen (g.D.Sectors.history c.args.disk.now) in
    let first : List ℕ = c.in_ok-first.first in
    let read = c.read_text.ensures.disk.was_honest honest in
    let version : ℕ = c.in-Some.version in
    let head = c.in-Some-head_in.head in
    let says = c.in-Some-head_in.ensures in
    damage ring place used number image first (c.in_ok-first.ensures.gives read) version c.in-Some.ensures.2 c.args.most (omega arith) (omega arith)
    c.in-Some.ensures.0 c.in-Some.ensures.1
    (none_by_bodies ring place used number image first (c.in_ok-first.ensures.gives read) version c.in-Some.ensures.2 head.length
    (subst (λ (v : ℕ). IsRecordLength v head.length) says.0 head.length_is) says.2
    (λ fronts. c.in-Err.ensures.damaged honest is
    (subst (λ (v : ℕ). FrontsStand v ring place used head.number head.length (seen (g.D.Sectors.history c.read_place.new.disk))) (sym says.0)
    (subst (λ (n : ℕ). FrontsStand version ring place used n head.length (seen (g.D.Sectors.history c.read_place.new.disk))) (sym says.1)
    (subst (λ (h : History). FrontsStand version ring place used number head.length (seen h)) (sym (c.in_ok-first.ensures.disk.same_history read)) fronts)))))

pub returns-in_default-clause-damaged : goal.returns-in_default-clause-damaged
returns-in_default-clause-damaged g c honest is =
    let ring : Ring = ring_of c.args.journal.now in
    let place : ℕ = c.args.journal.now.place in
    let used : ℕ = c.args.journal.now.used in
    let number : ℕ = c.args.journal.now.last + 1 in
    let image : Image = seen (g.D.Sectors.history c.args.disk.now) in
    let first : List ℕ = c.in_ok-first.first in
    let gives = c.in_ok-first.ensures.gives honest in
    let version : ℕ = c.in-Some.version in
    damage ring place used number image first gives version c.in-Some.ensures.2 c.args.most (omega arith) (omega arith)
    c.in-Some.ensures.0 c.in-Some.ensures.1
    (elim c.in_default.branch [
      | in_default-via-in-Some-head_in+else-head-free w ↦
          let says = w.in-Some-head_in.ensures in
          none_by_room ring place used number image first gives version c.in-Some.ensures.2 w.in-Some-head_in.head.length
          (subst (λ (v : ℕ). IsRecordLength v w.in-Some-head_in.head.length) says.0 w.in-Some-head_in.head.length_is) says.2
          (omega (arith, w.if-head-free.false, w.free.ensures, w.in-Some-head_in.head.parts_is))
      | in_default-via-in_default w ↦ none_by_head ring place used number image first gives version c.in-Some.ensures.2 w.in_default.ensures
    ])

pub returns-in-Err-clause-memory : goal.returns-in-Err-clause-memory
returns-in-Err-clause-memory g c honest is =
    let ring : Ring = ring_of c.args.journal.now in
    let read = c.read_text.ensures.disk.was_honest honest in
    no_end ring c.args.journal.now.place c.args.journal.now.used (c.args.journal.now.last + 1) (seen (g.D.Sectors.history c.args.disk.now))
    c.in_ok-first.first (c.in_ok-first.ensures.gives read) c.in-Some.version c.in-Some.ensures.2 c.args.most (omega arith) (omega arith)
    c.in-Some.ensures.0 c.in-Some.ensures.1

pub returns-then-journal-clause-disk : goal.returns-then-journal-clause-disk
returns-then-journal-clause-disk g c = reads_none c.args.disk.now

pub returns-then-journal-clause-failed : goal.returns-then-journal-clause-failed
returns-then-journal-clause-failed g c = refl

pub returns-then-journal-clause-next : goal.returns-then-journal-clause-next
returns-then-journal-clause-next g c honest = inl (omega (arith, c.if-journal.true))

pub returns-then-journal-2-clause-disk : goal.returns-then-journal-2-clause-disk
returns-then-journal-2-clause-disk g c = reads_none c.args.disk.now

pub returns-then-journal-2-clause-failed : goal.returns-then-journal-2-clause-failed
returns-then-journal-2-clause-failed g c = refl

pub returns-then-journal-2-clause-next : goal.returns-then-journal-2-clause-next
returns-then-journal-2-clause-next g c honest = inr (inl (omega (arith, c.if-journal-2.true)))

pub read_place-requires-clause-offset : goal.read_place-requires-clause-offset
read_place-requires-clause-offset g c = omega (arith, c.if-journal.false, c.args.journal.now.room)

pub read_place-requires-clause-ring : goal.read_place-requires-clause-ring
read_place-requires-clause-ring g c = c.requires.ring

-- the head's sector isn't read
unread : (g : Over) (c : goal.After-from_residual g) → c.from_residual.result ≡ Err Device
unread g c = passed_on c.from_residual.result c.in_err-first.field-0.0 Device c.from_residual.ensures.1 c.in_err-first.ensures.fault

pub returns-in_err-first-clause-disk : goal.returns-in_err-first-clause-disk
returns-in_err-first-clause-disk g c = c.in_err-first.ensures.disk

pub returns-in_err-first-clause-failed : goal.returns-in_err-first-clause-failed
returns-in_err-first-clause-failed g c = rw (unread g c) c.in_err-first.ensures.failed

pub returns-in_err-first-clause-fits : goal.returns-in_err-first-clause-fits
returns-in_err-first-clause-fits g c = rw (unread g c) tt

pub returns-in_err-first-clause-next : goal.returns-in_err-first-clause-next
returns-in_err-first-clause-next g c honest = rw (unread g c) tt

pub returns-in_err-first-clause-damaged : goal.returns-in_err-first-clause-damaged
returns-in_err-first-clause-damaged g c honest = rw (unread g c) (λ is. absurd (device_no_damage is))

pub returns-in_err-first-clause-memory : goal.returns-in_err-first-clause-memory
returns-in_err-first-clause-memory g c honest = rw (unread g c) (λ is. absurd (device_no_memory is))

pub returns-in-None-clause-disk : goal.returns-in-None-clause-disk
returns-in-None-clause-disk g c = c.in_ok-first.ensures.disk

pub returns-in-None-clause-failed : goal.returns-in-None-clause-failed
returns-in-None-clause-failed g c = c.in_ok-first.ensures.failed

pub returns-in-None-clause-next : goal.returns-in-None-clause-next
returns-in-None-clause-next g c honest = inr (inr (λ head. c.in-None.ensures
    (subst (λ (s : List ℕ). IsExpectedHead c.args.most (c.args.journal.now.last + 1) s) (sym (c.in_ok-first.ensures.gives honest)) head)))

pub overflow_cast-head : goal.overflow_cast-head
overflow_cast-head g c = omega (arith, c.in-Some-head_in.head.parts_is, c.in-Some-head_in.head.length_is)

pub read_text-requires-clause-ring : goal.read_text-requires-clause-ring
read_text-requires-clause-ring g c = omega (arith, c.requires.ring, c.in_ok-first.ensures.disk.same_count)

pub read_text-requires-clause-room : goal.read_text-requires-clause-room
read_text-requires-clause-room g c = omega (arith, c.if-head-free.true, c.free.ensures, c.in-Some-head_in.head.parts_is, c.args.journal.now.room)

pub read_text-requires-clause-front : goal.read_text-requires-clause-front
read_text-requires-clause-front g c =
    let head = c.in-Some-head_in.head in
    let says = c.in-Some-head_in.ensures in
    subst (λ (v : ℕ). HasFront v head.number head.length 0 c.in_ok-first.first) (sym says.0)
    (subst (λ (n : ℕ). HasFront c.in-Some.version n head.length 0 c.in_ok-first.first) (sym says.1) says.2)

pub read_text-requires-clause-first : goal.read_text-requires-clause-first
read_text-requires-clause-first g c honest =
    let at = sector_at (ring_of c.args.journal.now) (c.args.journal.now.place + c.args.journal.now.used) in
    c.in_ok-first.ensures.gives honest ∙ ap (λ (h : History). seen h at) (sym (c.in_ok-first.ensures.disk.same_history honest))

pub returns-in-Ok-clause-disk : goal.returns-in-Ok-clause-disk
returns-in-Ok-clause-disk g c = reads_on c.in_ok-first.ensures.disk c.in-Ok.ensures.disk

pub returns-in-Ok-clause-failed : goal.returns-in-Ok-clause-failed
returns-in-Ok-clause-failed g c = c.in-Ok.ensures.failed ∙ c.in_ok-first.ensures.failed

pub returns-in-Ok-clause-fits : goal.returns-in-Ok-clause-fits
returns-in-Ok-clause-fits g c =
    let head = c.in-Some-head_in.head in
    let says = c.in-Some-head_in.ensures in
    let whole = c.in-Ok.ensures.whole in (
      subst (λ (n : ℕ). IsRecordLength c.in-Some.version n) (sym whole)
          (subst (λ (v : ℕ). IsRecordLength v head.length) says.0 head.length_is),
      c.in-Some.ensures.1,
      omega (arith, whole, c.if-head-free.true, c.free.ensures, head.parts_is, c.args.journal.now.room),
      omega (arith, c.if-journal-2.false),
    )

pub returns-in-Ok-clause-next : goal.returns-in-Ok-clause-next
returns-in-Ok-clause-next g c honest =
    let ring : Ring = ring_of c.args.journal.now in
    let place : ℕ = c.args.journal.now.place in
    let used : ℕ = c.args.journal.now.used in
    let text : List ℕ = c.in-Ok.text.items in
    let head = c.in-Some-head_in.head in
    let says = c.in-Some-head_in.ensures in
    let read = c.in-Ok.ensures.disk.was_honest honest in
    subst (λ (h : History). PartsStand ring place used (c.args.journal.now.last + 1) (record_of c.in-Some.version text) (seen h))
    (c.in_ok-first.ensures.disk.same_history read)
    (subst (λ (n : ℕ). PartsStand ring place used n (record_of c.in-Some.version text) (seen (g.D.Sectors.history c.read_place.new.disk))) says.1
    (subst (λ (v : ℕ). PartsStand ring place used head.number (record_of v text) (seen (g.D.Sectors.history c.read_place.new.disk))) says.0
    (c.in-Ok.ensures.stands honest)))

pub returns-in-Err-clause-disk : goal.returns-in-Err-clause-disk
returns-in-Err-clause-disk g c = reads_on c.in_ok-first.ensures.disk c.in-Err.ensures.disk

pub returns-in-Err-clause-failed : goal.returns-in-Err-clause-failed
returns-in-Err-clause-failed g c = rw (← c.in_ok-first.ensures.failed) c.in-Err.ensures.failed

pub returns-in_default-clause-disk : goal.returns-in_default-clause-disk
returns-in_default-clause-disk g c = c.in_ok-first.ensures.disk

pub returns-in_default-clause-failed : goal.returns-in_default-clause-failed
returns-in_default-clause-failed g c = c.in_ok-first.ensures.failed

pub returns-in_default-clause-memory : goal.returns-in_default-clause-memory
returns-in_default-clause-memory g c honest is ends = absurd (memory_no_damage (sym is))
