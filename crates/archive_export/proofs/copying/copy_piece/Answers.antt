use Rattle.std.proofs.Common.{length}
use Rattle.sector_disk.specs.Disk.{seen}
use Rattle.archive_export.proofs.Joined.{piece_read, copies_none, copies_front}
use Rattle.archive_export.proofs.copying.copy_piece.Goals as goal

pub returns-in-Ok-write_whole-clause-copied : goal.returns-in-Ok-write_whole-clause-copied
returns-in-Ok-write_whole-clause-copied g c = (
  c.read_bytes.new.into,
  c.read_bytes.ensures.length,
  c.in-Ok-write_whole.ensures,
  λ archive are honest. piece_read (seen (g.D.Sectors.history c.args.disk.now)) c.args.archive.first c.args.archive.len c.args.at
      (length c.args.piece.now) archive c.read_bytes.new.into are c.requires.within (c.in-Ok.ensures.read honest),
)

pub returns-in-Err-clause-part : goal.returns-in-Err-clause-part
returns-in-Err-clause-part g c =
    copies_none g.D.Sectors.honest g.D.Sectors.history c.args.archive c.args.disk.now _ (g.W.Write.contents c.args.into.now) c.args.at _ c.requires.some

pub returns-in-Err-write_whole-clause-part : goal.returns-in-Err-write_whole-clause-part
returns-in-Err-write_whole-clause-part g c =
    copies_front g.D.Sectors.honest g.D.Sectors.history c.args.archive c.args.disk.now _ _ _ c.args.at (length c.args.piece.now) c.read_bytes.new.into
    c.read_bytes.ensures.length c.in-Err-write_whole.ensures
    (λ archive are honest. piece_read (seen (g.D.Sectors.history c.args.disk.now)) c.args.archive.first c.args.archive.len c.args.at
    (length c.args.piece.now) archive c.read_bytes.new.into are c.requires.within (c.in-Ok.ensures.read honest))
