use Rattle.std.proofs.Common.{◌≤◌, length, drop, arith, ◌∙◌, length-append, length-drop}
use Rattle.std.proofs.lemmas.List.{length-take-le}
use Rattle.std.proofs.lemmas.Result.{err_from_is_err_and}
use Rattle.sector_disk.proofs.AskedLaws.{reads_on}
use Rattle.archive_export.proofs.Joined.{copies_more, copies_all, copies_fewer}
use Rattle.archive_export.proofs.copying.copy_archive.Goals as goal

pub loop-at-preserved : goal.loop-at-preserved
loop-at-preserved g c =
    let inv = c.loop-at.invariant in
    let ok = c.in_ok-copy_piece.ensures in
    let count = c.min-count.result in
    let least = c.min-count.ensures in
    let below = c.loop-at-test.true in
    let fits : count ≤ length c.loop-at.piece = omega (arith, inv.length) in
    let long = length-take-le count c.loop-at.piece fits in
    record {
      within = omega (arith, inv.within);
      length = omega (arith, length-append c.copy_piece.new.piece (drop count c.loop-at.piece), length-drop count c.loop-at.piece, long, ok.length, inv.length);
      disk = reads_on inv.disk ok.disk;
      faults = ok.failed ∙ inv.faults;
      copied = copies_more g.D.Sectors.honest g.D.Sectors.history c.args.archive c.args.disk.now c.loop-at.disk c.copy_piece.new.disk
          _ _ _ c.loop-at.at count _ long ok.disk.was_honest inv.disk.same_history inv.copied ok.copied;
    }

pub returns-clause-copied : goal.returns-clause-copied
returns-clause-copied g c =
    let inv = c.loop-at.invariant in
    copies_all g.D.Sectors.honest g.D.Sectors.history c.args.archive c.args.disk.now c.loop-at.disk _ _ c.loop-at.at
    (omega (arith, inv.within, c.loop-at-test.false)) inv.copied

pub returns-in_err-copy_piece-clause-part : goal.returns-in_err-copy_piece-clause-part
returns-in_err-copy_piece-clause-part g c =
    let inv = c.loop-at.invariant in
    let failed = c.in_err-copy_piece.ensures in
    let count = c.min-count.result in
    let least = c.min-count.ensures in
    let below = c.loop-at-test.true in
    let fits : count ≤ length c.loop-at.piece = omega (arith, inv.length) in
    let long = length-take-le count c.loop-at.piece fits in
    let p = err_from_is_err_and c.from_residual.result c.from_residual.ensures.1 in
    rw (p.1) (copies_fewer g.D.Sectors.honest g.D.Sectors.history c.args.archive c.args.disk.now c.loop-at.disk c.copy_piece.new.disk
    _ _ _ c.loop-at.at _ (omega (arith, long, inv.within)) failed.disk.was_honest inv.disk.same_history inv.copied failed.part)
