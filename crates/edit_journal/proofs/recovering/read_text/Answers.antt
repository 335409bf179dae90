use Rattle.std.proofs.Common.{◌≡◌, ◌<◌, ◌+◌, ◌∙◌, ℕ, List, sym, ap, subst, refl, arith, length, Err}
use Rattle.sector_disk.specs.Disk.{History, seen}
use Rattle.sector_disk.proofs.AskedLaws.{reads_on, reads_none}
use Rattle.edit_journal.specs.Records.{parts_of, HasFront}
use Rattle.edit_journal.specs.Ring.{sector_at}
use Rattle.edit_journal.specs.Appends.{ring_of}
use Rattle.edit_journal.specs.declared.fault.JournalFault.TheVariants.{Device, Memory}
use Rattle.edit_journal.proofs.Exits.{passed_on, device_no_damage, memory_no_damage}
use Rattle.edit_journal.proofs.Joined.{longer, none_read, next_read, all_read}
use Rattle.edit_journal.proofs.recovering.read_text.Given.{Over}
use Rattle.edit_journal.proofs.recovering.read_text.Goals as goal

pub loop-part-init : goal.loop-part-init
loop-part-init g c =
    let journal = c.args.journal.now in
    let head = c.args.head in
    let image = seen (g.D.Sectors.history c.args.disk.now) in
    let told = c.told-first in
    let long : length c.args.first.now ≡ 512 = omega arith in
    let empty : length c.in-Ok.text.items ≡ 0 = ap length c.in-Ok.ensures.items in
    let some : 0 < parts_of head.length = omega (arith, head.length_is.1) in
    let here : journal.place + journal.used ≡ journal.place + (journal.used + 0) = omega arith in
    record {
      disk = reads_none c.args.disk.now;
      faults = refl;
      bytes = longer head.length 0 c.in-Ok.text.items c.piece_in.result.now c.add_bytes.new.text.items c.args.first.now some (omega (arith, empty))
          long c.piece_in.ensures c.in_ok-add_bytes.ensures.items;
      read = λ honest. next_read (ring_of journal) journal.place journal.used head.version head.number head.length image
          c.in-Ok.text.items c.piece_in.result.now c.add_bytes.new.text.items 0 c.args.first.now some (omega (arith, empty)) long
          (c.requires.first honest ∙ ap (λ p. image (sector_at (ring_of journal) p)) here) c.requires.front c.piece_in.ensures c.in_ok-add_bytes.ensures.items
          (none_read (ring_of journal) journal.place journal.used head.version head.number head.length image c.in-Ok.text.items);
    }

pub loop-part-preserved : goal.loop-part-preserved
loop-part-preserved g c =
    let journal = c.args.journal.now in
    let head = c.args.head in
    let image = seen (g.D.Sectors.history c.args.disk.now) in
    let inv = c.loop-part.invariant in
    let ok = c.in_ok-sector.ensures in
    let told = c.read_place.type_inv in
    let long : length c.in_ok-sector.sector ≡ 512 = omega arith in
    let lt : c.loop-part.part < parts_of head.length = omega (arith, c.loop-part-test.true, head.parts_is) in
    record {
      disk = reads_on inv.disk ok.disk;
      faults = ok.failed ∙ inv.faults;
      bytes = longer head.length c.loop-part.part c.loop-part.text.items c.piece_in-in-loop-part.result.now
          c.add_bytes-in-loop-part.new.text.items c.in_ok-sector.sector lt inv.bytes long c.piece_in-in-loop-part.ensures c.in_ok-add_bytes-2.ensures.items;
      read = λ honest.
          let before = ok.disk.was_honest honest in
          next_read (ring_of journal) journal.place journal.used head.version head.number head.length image c.loop-part.text.items
          c.piece_in-in-loop-part.result.now c.add_bytes-in-loop-part.new.text.items c.loop-part.part c.in_ok-sector.sector lt inv.bytes long
          (ok.gives honest ∙ ap (λ (h : History). seen h (sector_at (ring_of journal)
          (journal.place + (journal.used + c.loop-part.part)))) (inv.disk.same_history before))
          (c.has_part.ensures.0 c.if-not-has_part.false) c.piece_in-in-loop-part.ensures c.in_ok-add_bytes-2.ensures.items (inv.read before);
    }

pub returns-then-not-has_part-clause-damaged : goal.returns-then-not-has_part-clause-damaged
returns-then-not-has_part-clause-damaged g c honest is fronts =
    let journal = c.args.journal.now in
    let head = c.args.head in
    let inv = c.loop-part.invariant in
    let ok = c.in_ok-sector.ensures in
    let lt : c.loop-part.part < parts_of head.length = omega (arith, c.loop-part-test.true, head.parts_is) in
    let read = ok.gives honest ∙ ap (λ (h : History). seen h (sector_at (ring_of journal)
    (journal.place + (journal.used + c.loop-part.part)))) (inv.disk.same_history (ok.disk.was_honest honest)) in
    let there = c.has_part.ensures.1
    (subst (λ (s : List ℕ). HasFront head.version head.number head.length c.loop-part.part s) (sym read) (fronts c.loop-part.part lt)) in
    let none = c.if-not-has_part.true in
    absurd cc

pub returns-clause-whole : goal.returns-clause-whole
returns-clause-whole g c =
    omega (arith, c.loop-part-test.false, c.loop-part.auto.part-end, c.args.head.parts_is, c.loop-part.invariant.bytes)

pub returns-clause-stands : goal.returns-clause-stands
returns-clause-stands g c honest =
    let journal = c.args.journal.now in
    let head = c.args.head in
    let all : c.loop-part.part ≡ parts_of head.length = omega (arith, c.loop-part-test.false, c.loop-part.auto.part-end, head.parts_is) in
    all_read (ring_of journal) journal.place journal.used head.version head.number head.length _ c.loop-part.text.items c.loop-part.part
    all (omega (arith, c.loop-part.invariant.bytes, all)) (c.loop-part.invariant.read honest)

pub overflow_cast-head : goal.overflow_cast-head
overflow_cast-head g c = omega (arith, c.args.head.length_is)

pub returns-in-Err-clause-disk : goal.returns-in-Err-clause-disk
returns-in-Err-clause-disk g c = reads_none c.args.disk.now

pub returns-in-Err-clause-failed : goal.returns-in-Err-clause-failed
returns-in-Err-clause-failed g c = refl

pub returns-in-Err-clause-damaged : goal.returns-in-Err-clause-damaged
returns-in-Err-clause-damaged g c honest is fronts = absurd (memory_no_damage is)

pub piece_in-requires : goal.piece_in-requires
piece_in-requires g c = c.args.head.length_is.1

pub returns-in_err-add_bytes-clause-disk : goal.returns-in_err-add_bytes-clause-disk
returns-in_err-add_bytes-clause-disk g c = reads_none c.args.disk.now

-- the bytes of the first part find no memory
first_full : (g : Over) (c : goal.After-drop-text g) → c.from_residual.result ≡ Err Memory
first_full g c =
    passed_on c.from_residual.result c.in_err-add_bytes.field-0.0 Memory c.from_residual.ensures.1 c.in_err-add_bytes.ensures.fault

pub returns-in_err-add_bytes-clause-failed : goal.returns-in_err-add_bytes-clause-failed
returns-in_err-add_bytes-clause-failed g c = rw (first_full g c) refl

pub returns-in_err-add_bytes-clause-whole : goal.returns-in_err-add_bytes-clause-whole
returns-in_err-add_bytes-clause-whole g c = rw (first_full g c) tt

pub returns-in_err-add_bytes-clause-stands : goal.returns-in_err-add_bytes-clause-stands
returns-in_err-add_bytes-clause-stands g c honest = rw (first_full g c) tt

pub returns-in_err-add_bytes-clause-damaged : goal.returns-in_err-add_bytes-clause-damaged
returns-in_err-add_bytes-clause-damaged g c honest = rw (first_full g c) (λ is. absurd (memory_no_damage is))

pub overflow_cast-part : goal.overflow_cast-part
overflow_cast-part g c = omega (arith, c.loop-part-test.true, c.args.head.parts_is, c.args.head.length_is)

pub overflow_add-journal : goal.overflow_add-journal
overflow_add-journal g c = omega (arith, c.loop-part-test.true, c.args.head.parts_is, c.requires.room, c.args.journal.now.small)

pub read_place-requires-clause-offset : goal.read_place-requires-clause-offset
read_place-requires-clause-offset g c = omega (arith, c.loop-part-test.true, c.args.head.parts_is, c.requires.room)

pub read_place-requires-clause-ring : goal.read_place-requires-clause-ring
read_place-requires-clause-ring g c = omega (arith, c.requires.ring, c.loop-part.invariant.disk.same_count)

pub returns-in_err-sector-clause-disk : goal.returns-in_err-sector-clause-disk
returns-in_err-sector-clause-disk g c = reads_on c.loop-part.invariant.disk c.in_err-sector.ensures.disk

-- the sector of a part isn't read
unread : (g : Over) (c : goal.After-drop-text-in_err-sector g) → c.from_residual-in_err-sector.result ≡ Err Device
unread g c =
    passed_on c.from_residual-in_err-sector.result c.in_err-sector.field-0.0 Device c.from_residual-in_err-sector.ensures.1 c.in_err-sector.ensures.fault

pub returns-in_err-sector-clause-failed : goal.returns-in_err-sector-clause-failed
returns-in_err-sector-clause-failed g c = rw (unread g c, ← c.loop-part.invariant.faults) c.in_err-sector.ensures.failed

pub returns-in_err-sector-clause-whole : goal.returns-in_err-sector-clause-whole
returns-in_err-sector-clause-whole g c = rw (unread g c) tt

pub returns-in_err-sector-clause-stands : goal.returns-in_err-sector-clause-stands
returns-in_err-sector-clause-stands g c honest = rw (unread g c) tt

pub returns-in_err-sector-clause-damaged : goal.returns-in_err-sector-clause-damaged
returns-in_err-sector-clause-damaged g c honest = rw (unread g c) (λ is. absurd (device_no_damage is))

pub returns-then-not-has_part-clause-disk : goal.returns-then-not-has_part-clause-disk
returns-then-not-has_part-clause-disk g c = reads_on c.loop-part.invariant.disk c.in_ok-sector.ensures.disk

pub returns-then-not-has_part-clause-failed : goal.returns-then-not-has_part-clause-failed
returns-then-not-has_part-clause-failed g c = c.in_ok-sector.ensures.failed ∙ c.loop-part.invariant.faults

pub piece_in-requires-in-loop-part : goal.piece_in-requires-in-loop-part
piece_in-requires-in-loop-part g c = omega (arith, c.loop-part-test.true, c.args.head.parts_is)

pub returns-in_err-add_bytes-2-clause-disk : goal.returns-in_err-add_bytes-2-clause-disk
returns-in_err-add_bytes-2-clause-disk g c = reads_on c.loop-part.invariant.disk c.in_ok-sector.ensures.disk

-- the bytes of a later part find no memory
next_full : (g : Over) (c : goal.After-drop-text-in_err-add_bytes-2 g) → c.from_residual-in_err-add_bytes-2.result ≡ Err Memory
next_full g c =
    passed_on c.from_residual-in_err-add_bytes-2.result c.in_err-add_bytes-2.field-0.0 Memory c.from_residual-in_err-add_bytes-2.ensures.1
    c.in_err-add_bytes-2.ensures.fault

pub returns-in_err-add_bytes-2-clause-failed : goal.returns-in_err-add_bytes-2-clause-failed
returns-in_err-add_bytes-2-clause-failed g c = rw (next_full g c) (c.in_ok-sector.ensures.failed ∙ c.loop-part.invariant.faults)

pub returns-in_err-add_bytes-2-clause-whole : goal.returns-in_err-add_bytes-2-clause-whole
returns-in_err-add_bytes-2-clause-whole g c = rw (next_full g c) tt

pub returns-in_err-add_bytes-2-clause-stands : goal.returns-in_err-add_bytes-2-clause-stands
returns-in_err-add_bytes-2-clause-stands g c honest = rw (next_full g c) tt

pub returns-in_err-add_bytes-2-clause-damaged : goal.returns-in_err-add_bytes-2-clause-damaged
returns-in_err-add_bytes-2-clause-damaged g c honest = rw (next_full g c) (λ is. absurd (memory_no_damage is))

pub returns-clause-disk : goal.returns-clause-disk
returns-clause-disk g c = c.loop-part.invariant.disk

pub returns-clause-failed : goal.returns-clause-failed
returns-clause-failed g c = c.loop-part.invariant.faults
