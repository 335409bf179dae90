use Rattle.std.proofs.Common.{◌≡◌, ◌≤◌, ◌<◌, ◌-◌, ◌^◌, ◌++◌, ◌∷◌, [], ℕ, suc, List, length, drop, sym, ap, subst, arith}
use Rattle.sector_disk.specs.Disk.{History}
use Rattle.sector_disk.specs.Moments.{LeavesOnly}
use Rattle.edit_journal.specs.Records.{RecordData, record_of, parts_of}
use Rattle.edit_journal.specs.Ring.{RecordStart}
use Rattle.edit_journal.specs.Appends.{ring_of, start_of, AsBefore, HoldsOneMore, IsAppendFault}
use Rattle.edit_journal.specs.Kept.{HasOlder}
use Rattle.edit_journal.specs.declared.fault.JournalFault.{JournalFault}
use Rattle.edit_journal.specs.declared.journal.Journal.{Journal}
use Rattle.edit_journal.proofs.Frames.{frame_start}
use Rattle.edit_journal.proofs.Heads.{same_leaves}
use Rattle.edit_journal.proofs.Kept.{older_push, older_beside}
use Rattle.edit_journal.proofs.journal.Journal.append_to_both.Goals as goal

pub returns-in-Err-clause-fault : goal.returns-in-Err-clause-fault
returns-in-Err-clause-fault g c =
    let journal = c.args.self.now in
    let next : journal.last < 2 ^ 64 - 1 = c.with_room.ensures.below in
    let room : parts_of (length c.args.text.now) ≤ journal.places - journal.used =
    omega (arith, c.if-need-free.false, c.free-free.ensures, c.count_parts-need.ensures) in
    subst (λ (fault : JournalFault). IsAppendFault journal (parts_of (length c.args.text.now)) (g.D.Sectors.faults c.args.disk.now)
    (g.D.Sectors.faults c.with_room.new.disk) fault) (sym c.in-Err.ensures.fault) (next, room, c.in-Err.ensures.failed)

pub returns-then-need-free-clause-frame : goal.returns-then-need-free-clause-frame
returns-then-need-free-clause-frame g c honest = frame_start _ (ring_of c.args.self.now) c.args.self.now.place c.args.self.now.used

pub returns-then-need-free-clause-any_moment : goal.returns-then-need-free-clause-any_moment
returns-then-need-free-clause-any_moment g c rs honest before = same_leaves _ (ring_of c.args.self.now) c.args.self.now.place c.args.self.now.edits
    c.args.self.now.used c.args.self.now.last rs (record_of c.args.version c.args.text.now) before

pub returns-in-Err-clause-still_older : goal.returns-in-Err-clause-still_older
returns-in-Err-clause-still_older g c records honest has =
    let kept = c.args.kept.now in
    let none : 0 ≡ kept.edits - kept.edits = omega arith in
    subst (λ (h : History). HasOlder (drop (kept.edits - kept.edits) records) kept c.args.self.now h)
    (sym (c.with_room.ensures.disk.same_history honest))
    (subst (λ (n : ℕ). HasOlder (drop n records) kept c.args.self.now (g.D.Sectors.history c.args.disk.now)) none has)

pub returns-in-Err-clause-frame : goal.returns-in-Err-clause-frame
returns-in-Err-clause-frame g c honest =
    let journal = c.args.self.now in
    let old : History = g.D.Sectors.history c.args.disk.now in
    subst (λ (h : History). LeavesOnly old h (AsBefore (ring_of journal) journal.place journal.used old))
    (sym (c.with_room.ensures.disk.same_history honest)) (frame_start old (ring_of journal) journal.place journal.used)

pub returns-in-Err-clause-any_moment : goal.returns-in-Err-clause-any_moment
returns-in-Err-clause-any_moment g c rs honest before =
    let journal = c.args.self.now in
    let old : History = g.D.Sectors.history c.args.disk.now in
    let r : RecordData = record_of c.args.version c.args.text.now in
    subst (λ (h : History). LeavesOnly old h (HoldsOneMore (ring_of journal) (start_of journal.place journal.edits) rs r))
    (sym (c.with_room.ensures.disk.same_history honest))
    (same_leaves old (ring_of journal) journal.place journal.edits journal.used journal.last rs r before)

pub returns-in-Ok-append-clause-older : goal.returns-in-Ok-append-clause-older
returns-in-Ok-append-clause-older g c records honest has =
    let journal = c.args.self.now in
    let left = c.in-Ok.room in
    let more = c.with_record.result in
    let r : RecordData = record_of c.args.version c.args.text.now in
    let between = c.append.ensures.disk.was_honest honest in
    let next : journal.last < 2 ^ 64 - 1 = c.with_room.ensures.below in
    let was : HasOlder (drop (left.edits - c.args.kept.now.edits) records) left journal (g.D.Sectors.history c.with_room.new.disk) =
    subst (λ (h : History). HasOlder (drop (left.edits - c.args.kept.now.edits) records) left journal h)
    (sym (c.with_room.ensures.disk.same_history between)) (c.in-Ok.ensures.has records between has) in
    let edits : suc more.edits ≡ suc left.edits = ap (λ (s : RecordStart). s.number) c.with_record.ensures.same.1 in
    let count : left.edits - c.args.kept.now.edits ≡ more.edits - c.args.kept.now.edits = omega (arith, edits) in
    subst (λ (n : ℕ). HasOlder (drop n records ++ r ∷ []) more c.append.new.self (g.D.Sectors.history c.append.new.disk)) count
    (older_push (drop (left.edits - c.args.kept.now.edits) records) r left more journal c.append.new.self
    (g.D.Sectors.history c.with_room.new.disk) (g.D.Sectors.history c.append.new.disk) c.in-Ok.ensures.back was c.requires.text
    (omega (arith, c.in-Ok.ensures.room, c.count_parts-need.ensures, left.room)) next
    c.with_record.ensures.same c.with_record.ensures.used c.with_record.ensures.last
    c.append.ensures.same c.in-Ok-append.ensures.used c.in-Ok-append.ensures.last
    (c.append.ensures.beside honest) (c.in-Ok-append.ensures.stands honest))

pub returns-in-Err-append-clause-still_older : goal.returns-in-Err-append-clause-still_older
returns-in-Err-append-clause-still_older g c records honest has =
    let journal = c.args.self.now in
    let left = c.in-Ok.room in
    let between = c.append.ensures.disk.was_honest honest in
    let rest : List RecordData = drop (left.edits - c.args.kept.now.edits) records in
    let was : HasOlder rest left journal (g.D.Sectors.history c.with_room.new.disk) = subst (λ (h : History). HasOlder rest left journal h)
    (sym (c.with_room.ensures.disk.same_history between)) (c.in-Ok.ensures.has records between has) in
    subst (λ (now : Journal). HasOlder rest left now (g.D.Sectors.history c.append.new.disk)) (sym c.in-Err-append.ensures.kept)
    (older_beside rest left journal (parts_of (length c.args.text.now)) (g.D.Sectors.history c.with_room.new.disk)
    (g.D.Sectors.history c.append.new.disk) c.in-Ok.ensures.back was
    (omega (arith, c.in-Ok.ensures.room, c.count_parts-need.ensures, left.room)) (c.append.ensures.beside honest))

pub returns-then-not-has_number-clause-frame : goal.returns-then-not-has_number-clause-frame
returns-then-not-has_number-clause-frame g c honest = frame_start _ (ring_of c.args.self.now) c.args.self.now.place c.args.self.now.used

pub returns-then-not-has_number-clause-any_moment : goal.returns-then-not-has_number-clause-any_moment
returns-then-not-has_number-clause-any_moment g c rs honest before = same_leaves _ (ring_of c.args.self.now) c.args.self.now.place
    c.args.self.now.edits c.args.self.now.used c.args.self.now.last rs (record_of c.args.version c.args.text.now) before
