use Rattle.std.proofs.Common.{◌≡◌, ◌+◌, ◌-◌, ◌++◌, ◌∷◌, [], ◌∙◌, ℕ, suc, length, length-append, take, drop, sym, ap, subst, arith}
use Rattle.sector_disk.specs.Disk.{History, seen}
use Rattle.sector_disk.proofs.AskedLaws.{reads_on}
use Rattle.edit_journal.specs.Records.{record_data, records_of}
use Rattle.edit_journal.specs.Ring.{RecordStart, places_of, HoldsRecords}
use Rattle.edit_journal.specs.Appends.{ring_of, start_of}
use Rattle.edit_journal.specs.Lists.{first_bytes}
use Rattle.edit_journal.proofs.Reading.{records_more}
use Rattle.edit_journal.proofs.ReadAgain.{first_full, first_next, moved_records, places_more}
use Rattle.edit_journal.proofs.journal.Journal.records_from.Goals as goal

pub returns-then-room-eq0-clause-found : goal.returns-then-room-eq0-clause-found
returns-then-room-eq0-clause-found g c records honest has allowed =
    let held = c.loop-last.invariant.held records honest has allowed in
    first_full c.loop-last.room (records_of c.loop-last.found.items) (drop (c.loop-last.last - c.args.self.now.edits) records)
    (first_bytes c.args.bytes (drop (c.args.number - (c.args.self.now.edits + 1)) records)) (omega (arith, c.if-room-eq0.true)) held.1

pub loop-last-preserved : goal.loop-last-preserved
loop-last-preserved g c =
    let journal = c.args.self.now in
    let inv = c.loop-last.invariant in
    let ok = c.in_ok-next.ensures in
    let old = c.loop-last.before in
    let next = c.in_ok-next.next in
    let added = c.with_record-before.ensures in
    record {
      disk = reads_on inv.disk ok.disk;
      faults = ok.failed ∙ inv.faults;
      ring = added.same.0 ∙ inv.ring;
      start = added.same.1 ∙ inv.start;
      last = omega (arith, added.last, inv.last);
      counted = omega (arith, inv.counted, ap length c.in-Ok.ensures.items, length-append c.loop-last.found.items (next ∷ []));
      held = λ records honest has allowed.
          let before = ok.disk.was_honest honest in
          let held = inv.held records before has allowed in
          let count : ℕ = c.loop-last.last - journal.edits in
          let edits_are : old.edits ≡ journal.edits = omega (arith, ap (λ (s : RecordStart). s.number) inv.start) in
          let more : c.loop-last.last + 1 - journal.edits ≡ count + 1 = omega (arith, c.loop-last.auto.last, c.requires.number.0) in
          let stands : HoldsRecords (ring_of old) (start_of old.place old.edits) records (seen (g.D.Sectors.history c.loop-last.disk)) =
          subst (λ (h : History). HoldsRecords (ring_of old) (start_of old.place old.edits) records (seen h)) (sym (inv.disk.same_history before))
          (moved_records (ring_of journal) (ring_of old) (start_of journal.place journal.edits) (start_of old.place old.edits) records
          (seen (g.D.Sectors.history c.args.disk.now)) inv.ring inv.start has.reads) in
          let is : drop count records ≡ record_data next ∷ drop (count + 1) records =
          ok.next records count honest stands allowed held.0
          (omega (arith, inv.last, edits_are, c.loop-last.auto.last, c.requires.number.0))
          (omega (arith, has.counts, c.loop-last-test.true, c.loop-last.auto.last, c.requires.number.0)) in
          let one : count + 1 ≡ suc count = omega arith in (
            omega (
              arith,
              added.used,
              c.len.ensures,
              held.0,
              places_more records count (record_data next) (drop (count + 1) records) is,
              ap (λ (n : ℕ). places_of (take n records)) (more ∙ one),
            ),
            subst (λ (n : ℕ). records_of c.push.new.self.items ++ first_bytes c.saturating_sub-room.result (drop n records)
                ≡ first_bytes c.args.bytes (drop (c.args.number - (journal.edits + 1)) records)) (sym more)
                (first_next c.loop-last.room c.saturating_sub-room.result (records_of c.loop-last.found.items) (records_of c.push.new.self.items)
                (drop count records) (drop (count + 1) records)
                (first_bytes c.args.bytes (drop (c.args.number - (journal.edits + 1)) records)) (record_data next)
                (λ full. omega (arith, full, c.if-room-eq0.false))
                (omega (arith, c.saturating_sub-room.ensures, c.len-in-loop-last.ensures))
                (ap records_of c.in-Ok.ensures.items ∙ records_more c.loop-last.found.items next) is held.1),
          );
    }
