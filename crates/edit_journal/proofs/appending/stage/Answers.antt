use Rattle.std.proofs.Common.{◌∙◌, ◌<◌, inl, refl, ap, arith}
use Rattle.sector_disk.proofs.AskedLaws.{writes_on}
use Rattle.edit_journal.specs.Records.{record_of}
use Rattle.edit_journal.specs.Appends.{ring_of, writes_in, syncs_in}
use Rattle.edit_journal.proofs.Bodies.{staged_start, body_within, body_leaves, body_reads, body_seen}
use Rattle.edit_journal.proofs.Bodies.{synced_reads, synced_within, synced_leaves}
use Rattle.edit_journal.proofs.appending.stage.Goals as goal

pub loop-part-init : goal.loop-part-init
loop-part-init g c = record {
  disk = record { same_count = refl; was_honest = λ honest. honest };
  faults = refl;
  reads = λ honest at apart. refl;
  leaves = λ honest. staged_start _ (ring_of c.args.journal.now) c.args.journal.now.place c.args.journal.now.used c.args.number
      (record_of c.args.version c.args.text.now) (omega arith) c.requires.room;
  within = λ honest at left may. inl may;
  bodies = λ honest part pos lt. absurd (omega (arith, pos, lt));
  writes = λ honest. refl;
  syncs = λ honest. refl;
}

pub loop-part-preserved : goal.loop-part-preserved
loop-part-preserved g c =
    let journal = c.args.journal.now in
    let r = record_of c.args.version c.args.text.now in
    let inv = c.loop-part.invariant in
    let ok = c.in_ok-write.ensures in
    let begins : journal.place < journal.places = omega arith in
    record {
      disk = writes_on inv.disk ok.disk;
      faults = ok.faults ∙ inv.faults;
      reads = λ honest. body_reads (g.D.Sectors.history c.args.disk.now) (ring_of journal) journal.place journal.used c.args.number r
          begins c.requires.room
          c.loop-part.part (omega arith) (omega arith) _ c.sector_of-at.ensures.is _ c.part_sector-sector.ensures _ _ _
          (c.write.ensures.writes honest) (inv.reads (ok.disk.was_honest honest));
      leaves = λ honest. body_leaves _ (ring_of journal) journal.place journal.used c.args.number r begins c.requires.room
          c.loop-part.part (omega arith) (omega arith) _ c.sector_of-at.ensures.is _ c.part_sector-sector.ensures _ _ _
          (c.write.ensures.writes honest) (inv.within (ok.disk.was_honest honest)) (inv.leaves (ok.disk.was_honest honest));
      within = λ honest. body_within _ (ring_of journal) journal.place journal.used c.args.number r begins c.requires.room
          c.loop-part.part (omega arith) (omega arith) _ c.sector_of-at.ensures.is _ c.part_sector-sector.ensures _ _ _
          (c.write.ensures.writes honest) (inv.within (ok.disk.was_honest honest));
      bodies = λ honest. body_seen (g.D.Sectors.history c.args.disk.now) (ring_of journal) journal.place journal.used c.args.number r begins
          c.requires.room c.loop-part.part _ _ _ _ (omega arith) c.sector_of-at.ensures.is c.part_sector-sector.ensures
          (ok.writes honest) (inv.bodies (ok.disk.was_honest honest));
      writes = λ honest. omega (arith, ap writes_in (ok.writes honest), inv.writes (ok.disk.was_honest honest));
      syncs = λ honest. ap syncs_in (ok.writes honest) ∙ inv.syncs (ok.disk.was_honest honest);
    }

pub returns-in_err-write-clause-reads : goal.returns-in_err-write-clause-reads
returns-in_err-write-clause-reads g c honest =
    let journal = c.args.journal.now in
    let before = c.write.ensures.disk.was_honest honest in
    body_reads (g.D.Sectors.history c.args.disk.now) (ring_of journal) journal.place journal.used c.args.number (record_of c.args.version c.args.text.now)
    (omega arith) c.requires.room
    c.loop-part.part (omega arith) (omega arith) _ c.sector_of-at.ensures.is _ c.part_sector-sector.ensures _ _ _ (c.write.ensures.writes honest)
    (c.loop-part.invariant.reads before)

pub returns-in_err-write-clause-leaves : goal.returns-in_err-write-clause-leaves
returns-in_err-write-clause-leaves g c honest =
    let journal = c.args.journal.now in
    let before = c.write.ensures.disk.was_honest honest in
    body_leaves _ (ring_of journal) journal.place journal.used c.args.number (record_of c.args.version c.args.text.now) (omega arith) c.requires.room
    c.loop-part.part (omega arith) (omega arith) _ c.sector_of-at.ensures.is _ c.part_sector-sector.ensures _ _ _ (c.write.ensures.writes honest)
    (c.loop-part.invariant.within before) (c.loop-part.invariant.leaves before)

pub returns-in_err-write-clause-within : goal.returns-in_err-write-clause-within
returns-in_err-write-clause-within g c honest =
    let journal = c.args.journal.now in
    let before = c.write.ensures.disk.was_honest honest in
    body_within _ (ring_of journal) journal.place journal.used c.args.number (record_of c.args.version c.args.text.now) (omega arith) c.requires.room
    c.loop-part.part (omega arith) (omega arith) _ c.sector_of-at.ensures.is _ c.part_sector-sector.ensures _ _ _ (c.write.ensures.writes honest)
    (c.loop-part.invariant.within before)

pub returns-in_err-sync-clause-reads : goal.returns-in_err-sync-clause-reads
returns-in_err-sync-clause-reads g c honest =
    let journal = c.args.journal.now in
    synced_reads (g.D.Sectors.history c.args.disk.now) (ring_of journal) journal.place journal.used _ _ _ _ (c.sync.ensures.syncs honest)
    (c.loop-part.invariant.reads (c.sync.ensures.disk.was_honest honest))

pub returns-in_err-sync-clause-within : goal.returns-in_err-sync-clause-within
returns-in_err-sync-clause-within g c honest =
    let journal = c.args.journal.now in
    synced_within _ (ring_of journal) journal.place journal.used c.args.number (record_of c.args.version c.args.text.now) (omega arith)
    c.requires.room _ _ _ (c.sync.ensures.syncs honest) (c.loop-part.invariant.within (c.sync.ensures.disk.was_honest honest))

pub returns-in_err-sync-clause-leaves : goal.returns-in_err-sync-clause-leaves
returns-in_err-sync-clause-leaves g c honest =
    let journal = c.args.journal.now in
    let staged = c.sync.ensures.disk.was_honest honest in
    synced_leaves _ (ring_of journal) journal.place journal.used c.args.number (record_of c.args.version c.args.text.now) (omega arith)
    c.requires.room _ _ _ (c.sync.ensures.syncs honest) (c.loop-part.invariant.within staged) (c.loop-part.invariant.leaves staged)

pub returns-in_ok-sync-clause-reads : goal.returns-in_ok-sync-clause-reads
returns-in_ok-sync-clause-reads g c honest =
    let journal = c.args.journal.now in
    synced_reads (g.D.Sectors.history c.args.disk.now) (ring_of journal) journal.place journal.used _ _ _ _ (c.sync.ensures.syncs honest)
    (c.loop-part.invariant.reads (c.sync.ensures.disk.was_honest honest))

pub returns-in_ok-sync-clause-within : goal.returns-in_ok-sync-clause-within
returns-in_ok-sync-clause-within g c honest =
    let journal = c.args.journal.now in
    synced_within _ (ring_of journal) journal.place journal.used c.args.number (record_of c.args.version c.args.text.now) (omega arith)
    c.requires.room _ _ _ (c.sync.ensures.syncs honest) (c.loop-part.invariant.within (c.sync.ensures.disk.was_honest honest))

pub returns-in_ok-sync-clause-leaves : goal.returns-in_ok-sync-clause-leaves
returns-in_ok-sync-clause-leaves g c honest =
    let journal = c.args.journal.now in
    let staged = c.sync.ensures.disk.was_honest honest in
    synced_leaves _ (ring_of journal) journal.place journal.used c.args.number (record_of c.args.version c.args.text.now) (omega arith)
    c.requires.room _ _ _ (c.sync.ensures.syncs honest) (c.loop-part.invariant.within staged) (c.loop-part.invariant.leaves staged)
