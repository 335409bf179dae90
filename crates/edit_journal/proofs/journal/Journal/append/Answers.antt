use Rattle.std.proofs.lemmas.Grind.{common_steps}
use Rattle.std.proofs.Common.{ℕ, ◌+◌, ◌++◌, ◌∷◌, [], ◌≤◌, length, refl, sym, ap, subst, arith}
use Rattle.edit_journal.specs.Records.{record_of, parts_of}
use Rattle.edit_journal.specs.Appends.{ring_of, Keeps}
use Rattle.edit_journal.proofs.Frames.{frame_start, beside_reads}
use Rattle.edit_journal.proofs.Heads.{same_leaves}
use Rattle.edit_journal.proofs.journal.Journal.append.Goals as goal

pub returns-then-self-clause-frame : goal.returns-then-self-clause-frame
returns-then-self-clause-frame g c honest = frame_start _ (ring_of c.args.self.now) c.args.self.now.place c.args.self.now.used

pub returns-then-self-clause-any_moment : goal.returns-then-self-clause-any_moment
returns-then-self-clause-any_moment g c rs honest before = same_leaves _ (ring_of c.args.self.now) c.args.self.now.place c.args.self.now.edits
    c.args.self.now.used c.args.self.now.last rs (record_of c.args.version c.args.text.now) before

pub returns-then-need-free-clause-frame : goal.returns-then-need-free-clause-frame
returns-then-need-free-clause-frame g c honest = frame_start _ (ring_of c.args.self.now) c.args.self.now.place c.args.self.now.used

pub returns-then-need-free-clause-any_moment : goal.returns-then-need-free-clause-any_moment
returns-then-need-free-clause-any_moment g c rs honest before = same_leaves _ (ring_of c.args.self.now) c.args.self.now.place c.args.self.now.edits
    c.args.self.now.used c.args.self.now.last rs (record_of c.args.version c.args.text.now) before

pub returns-in-Err-clause-fault : goal.returns-in-Err-clause-fault
returns-in-Err-clause-fault g c = grind (arith, common_steps)

pub returns-clause-steps : goal.returns-clause-steps
returns-clause-steps g c = grind (arith, common_steps)

-- what `write_record` ensures, where it fails
pub returns-in-Err-clause-disk : goal.returns-in-Err-clause-disk
returns-in-Err-clause-disk g c = c.write_record.ensures.disk

pub returns-in-Err-clause-reads : goal.returns-in-Err-clause-reads
returns-in-Err-clause-reads g c honest =
    let journal = c.args.self.now in
    let room : journal.used + parts_of (length c.args.text.now) ≤ journal.places = grind (arith, common_steps) in
    beside_reads (ring_of journal) journal.place journal.used (parts_of (length c.args.text.now)) _ _ room (c.write_record.ensures.reads honest)

pub returns-in-Err-clause-beside : goal.returns-in-Err-clause-beside
returns-in-Err-clause-beside g c = c.write_record.ensures.reads

pub returns-in-Err-clause-frame : goal.returns-in-Err-clause-frame
returns-in-Err-clause-frame g c = c.write_record.ensures.frame

pub returns-in-Err-clause-any_moment : goal.returns-in-Err-clause-any_moment
returns-in-Err-clause-any_moment g c = c.write_record.ensures.any_moment

pub returns-clause-disk : goal.returns-clause-disk
returns-clause-disk g c = c.write_record.ensures.disk

pub returns-clause-reads : goal.returns-clause-reads
returns-clause-reads g c honest =
    let journal = c.args.self.now in
    let room : journal.used + parts_of (length c.args.text.now) ≤ journal.places = grind (arith, common_steps) in
    beside_reads (ring_of journal) journal.place journal.used (parts_of (length c.args.text.now)) _ _ room (c.write_record.ensures.reads honest)

pub returns-clause-beside : goal.returns-clause-beside
returns-clause-beside g c = c.write_record.ensures.reads

pub returns-clause-frame : goal.returns-clause-frame
returns-clause-frame g c = c.write_record.ensures.frame

pub returns-clause-any_moment : goal.returns-clause-any_moment
returns-clause-any_moment g c = c.write_record.ensures.any_moment

pub returns-clause-faults : goal.returns-clause-faults
returns-clause-faults g c = c.in-Ok.ensures.failed

pub returns-clause-acknowledged : goal.returns-clause-acknowledged
returns-clause-acknowledged g c = λ rs honest before. subst
    (λ (parts : ℕ). Keeps (ring_of c.args.self.now) c.args.self.now.place c.args.self.now.edits (c.args.self.now.used + parts) (c.args.self.now.last + 1)
    (rs ++ record_of c.args.version c.args.text.now ∷ []) (g.D.Sectors.history c.write_record.new.disk))
    (sym c.count_parts-need.ensures) (c.in-Ok.ensures.acknowledged rs honest before)

pub returns-clause-stands : goal.returns-clause-stands
returns-clause-stands g c = c.in-Ok.ensures.stands

pub returns-clause-used : goal.returns-clause-used
returns-clause-used g c = ap (λ (n : ℕ). c.args.self.now.used + n) c.count_parts-need.ensures

pub returns-clause-last : goal.returns-clause-last
returns-clause-last g c = refl

pub returns-clause-number : goal.returns-clause-number
returns-clause-number g c = refl

pub returns-clause-same : goal.returns-clause-same
returns-clause-same g c = (refl, refl)

pub write_record-requires-clause-text : goal.write_record-requires-clause-text
write_record-requires-clause-text g c = c.requires.text

pub write_record-requires-clause-room : goal.write_record-requires-clause-room
write_record-requires-clause-room g c = grind (arith, common_steps)

pub overflow_add-self : goal.overflow_add-self
overflow_add-self g c = grind (arith, common_steps)

pub overflow_add-self-2 : goal.overflow_add-self-2
overflow_add-self-2 g c = grind (arith, common_steps)

pub invariant_of-self : goal.invariant_of-self
invariant_of-self g c = grind (arith, common_steps)

pub count_parts-need-requires : goal.count_parts-need-requires
count_parts-need-requires g c = grind (arith, common_steps)
