use Rattle.std.proofs.Common.{◌+◌, ap, arith}
use Rattle.std.proofs.lemmas.Result.{IfOk-from_err, MatchResult-from_err}
use Rattle.sector_disk.proofs.AskedLaws.{writes_on}
use Rattle.edit_journal.specs.Records.{record_of}
use Rattle.edit_journal.specs.Appends.{ring_of, writes_in, syncs_in}
use Rattle.edit_journal.proofs.Frames.{some_parts, frame_staged, frame_head, head_reads, frame_end, end_reads, end_stands}
use Rattle.edit_journal.proofs.Heads.{on_ok, stage_leaves, head_leaves, end_leaves, end_keeps}
use Rattle.edit_journal.proofs.appending.write_record.Goals as goal

pub returns-in_err-stage-clause-frame : goal.returns-in_err-stage-clause-frame
returns-in_err-stage-clause-frame g c honest =
    let journal = c.args.journal.now in
    frame_staged _ (ring_of journal) journal.place journal.used (journal.last + 1) (record_of c.args.version c.args.text.now)
    (some_parts _ c.requires.text.1) c.requires.room _ (c.stage.ensures.within honest) (c.stage.ensures.leaves honest)

pub returns-in_err-stage-clause-any_moment : goal.returns-in_err-stage-clause-any_moment
returns-in_err-stage-clause-any_moment g c rs honest before =
    let journal = c.args.journal.now in
    stage_leaves _ (ring_of journal) journal.place journal.edits journal.used journal.last rs (record_of c.args.version c.args.text.now)
    c.args.journal.now.begins c.requires.room (omega (arith, c.requires.next)) c.requires.text before _ (c.stage.ensures.leaves honest)

pub returns-in_err-write-clause-reads : goal.returns-in_err-write-clause-reads
returns-in_err-write-clause-reads g c honest =
    let journal = c.args.journal.now in
    let staged = c.write.ensures.disk.was_honest honest in
    head_reads _ (ring_of journal) journal.place journal.used (journal.last + 1) (record_of c.args.version c.args.text.now)
    (some_parts _ c.requires.text.1) c.requires.room _ (c.stage.ensures.within staged) (c.stage.ensures.leaves staged) _ c.sector_of-at.ensures.is
    _ _ _ (c.write.ensures.writes honest) (c.stage.ensures.reads staged)

pub returns-in_err-write-clause-frame : goal.returns-in_err-write-clause-frame
returns-in_err-write-clause-frame g c honest =
    let journal = c.args.journal.now in
    let staged = c.write.ensures.disk.was_honest honest in
    frame_head _ (ring_of journal) journal.place journal.used (journal.last + 1) (record_of c.args.version c.args.text.now)
    (some_parts _ c.requires.text.1) c.requires.room _ (c.stage.ensures.within staged) (c.stage.ensures.leaves staged) _ c.sector_of-at.ensures.is
    _ _ _ (c.write.ensures.writes honest)

pub returns-in_err-write-clause-any_moment : goal.returns-in_err-write-clause-any_moment
returns-in_err-write-clause-any_moment g c rs honest before =
    let journal = c.args.journal.now in
    let staged = c.write.ensures.disk.was_honest honest in
    head_leaves _ (ring_of journal) journal.place journal.edits journal.used journal.last rs (record_of c.args.version c.args.text.now)
    c.args.journal.now.begins c.requires.room (omega (arith, c.requires.next)) c.requires.text before _ (c.stage.ensures.within staged)
    (c.in_ok-stage.ensures.bodies staged) _ c.sector_of-at.ensures.is _ c.part_sector-head.ensures _ _ (c.write.ensures.writes honest)
    (c.stage.ensures.leaves staged)

pub returns-clause-reads : goal.returns-clause-reads
returns-clause-reads g c honest =
    let journal = c.args.journal.now in
    let written = c.sync.ensures.disk.was_honest honest in
    let staged = c.write.ensures.disk.was_honest written in
    end_reads _ (ring_of journal) journal.place journal.used (journal.last + 1) (record_of c.args.version c.args.text.now)
    (some_parts _ c.requires.text.1) c.requires.room _ (c.stage.ensures.within staged) (c.stage.ensures.leaves staged) _ c.sector_of-at.ensures.is
    _ _ _ (c.write.ensures.writes written) _ _ (c.sync.ensures.syncs honest) (c.stage.ensures.reads staged)

pub returns-clause-frame : goal.returns-clause-frame
returns-clause-frame g c honest =
    let journal = c.args.journal.now in
    let written = c.sync.ensures.disk.was_honest honest in
    let staged = c.write.ensures.disk.was_honest written in
    frame_end _ (ring_of journal) journal.place journal.used (journal.last + 1) (record_of c.args.version c.args.text.now)
    (some_parts _ c.requires.text.1) c.requires.room _ (c.stage.ensures.within staged) (c.stage.ensures.leaves staged) _ c.sector_of-at.ensures.is
    _ _ _ (c.write.ensures.writes written) _ _ (c.sync.ensures.syncs honest)

pub returns-clause-any_moment : goal.returns-clause-any_moment
returns-clause-any_moment g c rs honest before =
    let journal = c.args.journal.now in
    let written = c.sync.ensures.disk.was_honest honest in
    let staged = c.write.ensures.disk.was_honest written in
    end_leaves _ (ring_of journal) journal.place journal.edits journal.used journal.last rs (record_of c.args.version c.args.text.now)
    c.args.journal.now.begins c.requires.room (omega (arith, c.requires.next)) c.requires.text before _ (c.stage.ensures.within staged)
    (c.in_ok-stage.ensures.bodies staged) _ c.sector_of-at.ensures.is _ c.part_sector-head.ensures _ _ (c.write.ensures.writes written)
    (c.stage.ensures.leaves staged) _ _ (c.sync.ensures.syncs honest)

pub returns-clause-acknowledged : goal.returns-clause-acknowledged
returns-clause-acknowledged g c rs honest before =
    let journal = c.args.journal.now in
    let written = c.sync.ensures.disk.was_honest honest in
    let staged = c.write.ensures.disk.was_honest written in
    end_keeps _ (ring_of journal) journal.place journal.edits journal.used journal.last rs (record_of c.args.version c.args.text.now)
    c.args.journal.now.begins c.requires.room (omega (arith, c.requires.next)) c.requires.text before _ (c.stage.ensures.within staged)
    (c.in_ok-stage.ensures.bodies staged) _ c.sector_of-at.ensures.is _ c.part_sector-head.ensures _ _ (c.write.ensures.writes written)
    (c.stage.ensures.leaves staged) _ _ (c.sync.ensures.syncs honest) (c.in_ok-write.ensures.writes written)

pub returns-clause-stands : goal.returns-clause-stands
returns-clause-stands g c honest =
    let journal = c.args.journal.now in
    let written = c.sync.ensures.disk.was_honest honest in
    let staged = c.write.ensures.disk.was_honest written in
    on_ok c.sync.result _ _ (c.sync.ensures.syncs honest)
    (λ synced_is. end_stands _ (ring_of journal) journal.place journal.used (journal.last + 1) (record_of c.args.version c.args.text.now)
    (some_parts _ c.requires.text.1) c.requires.room _ (c.stage.ensures.within staged) (c.stage.ensures.leaves staged) _ c.sector_of-at.ensures.is
    _ _ _ (c.write.ensures.writes written) _ _ (c.sync.ensures.syncs honest) journal.begins (c.in_ok-stage.ensures.bodies staged)
    c.part_sector-head.ensures (c.in_ok-write.ensures.writes written))

pub returns-in_err-stage-clause-stands : goal.returns-in_err-stage-clause-stands
returns-in_err-stage-clause-stands g c honest = IfOk-from_err _ _ c.from_residual.ensures.0

pub returns-in_err-write-clause-stands : goal.returns-in_err-write-clause-stands
returns-in_err-write-clause-stands g c honest = IfOk-from_err _ _ c.from_residual-in_err-write.ensures.0

pub returns-clause-steps : goal.returns-clause-steps
returns-clause-steps g c honest =
    let written = c.sync.ensures.disk.was_honest honest in
    let staged = c.write.ensures.disk.was_honest written in
    on_ok c.sync.result _ _ (c.sync.ensures.syncs honest)
    (λ synced_is. record {
      writes = omega (arith, ap writes_in synced_is, ap writes_in (c.in_ok-write.ensures.writes written), c.in_ok-stage.ensures.writes staged);
      syncs = omega (arith, ap syncs_in synced_is, ap syncs_in (c.in_ok-write.ensures.writes written), c.in_ok-stage.ensures.syncs staged);
    })

-- what calls ensure that may write, one after the other
pub returns-in_err-stage-clause-disk : goal.returns-in_err-stage-clause-disk
returns-in_err-stage-clause-disk g c = c.stage.ensures.disk

pub returns-in_err-write-clause-disk : goal.returns-in_err-write-clause-disk
returns-in_err-write-clause-disk g c = writes_on c.stage.ensures.disk c.write.ensures.disk

pub returns-clause-disk : goal.returns-clause-disk
returns-clause-disk g c = writes_on (writes_on c.stage.ensures.disk c.write.ensures.disk) c.sync.ensures.disk

-- a `?` that returns returns an error
pub returns-in_err-stage-clause-failed : goal.returns-in_err-stage-clause-failed
returns-in_err-stage-clause-failed g c = MatchResult-from_err _ _ _ c.from_residual.ensures.0 (λ fault. c.in_err-stage.ensures.failed)

pub returns-in_err-stage-clause-reads : goal.returns-in_err-stage-clause-reads
returns-in_err-stage-clause-reads g c = c.stage.ensures.reads

pub returns-in_err-stage-clause-acknowledged : goal.returns-in_err-stage-clause-acknowledged
returns-in_err-stage-clause-acknowledged g c rs honest before = IfOk-from_err _ _ c.from_residual.ensures.0

pub returns-in_err-stage-clause-steps : goal.returns-in_err-stage-clause-steps
returns-in_err-stage-clause-steps g c honest = IfOk-from_err _ _ c.from_residual.ensures.0

pub returns-in_err-write-clause-acknowledged : goal.returns-in_err-write-clause-acknowledged
returns-in_err-write-clause-acknowledged g c rs honest before = IfOk-from_err _ _ c.from_residual-in_err-write.ensures.0

pub returns-in_err-write-clause-steps : goal.returns-in_err-write-clause-steps
returns-in_err-write-clause-steps g c honest = IfOk-from_err _ _ c.from_residual-in_err-write.ensures.0

pub part_sector-head-requires-clause-text : goal.part_sector-head-requires-clause-text
part_sector-head-requires-clause-text g c = c.requires.text

pub stage-requires-clause-text : goal.stage-requires-clause-text
stage-requires-clause-text g c = c.requires.text
