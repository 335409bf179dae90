use Rattle.std.proofs.lemmas.Grind.{common_steps}
use Rattle.std.proofs.Common.{length, arith}
use Rattle.sector_disk.specs.Disk.{seen}
use Rattle.tile_service.proofs.Disk.SectorBytes.{read_whole}
use Rattle.tile_service.proofs.snapshot_reading.read_text.Goals as goal

pub returns-in-Ok-read_bytes-clause-stands : goal.returns-in-Ok-read_bytes-clause-stands
returns-in-Ok-read_bytes-clause-stands g c honest =
    read_whole (seen (g.D.Sectors.history c.args.disk.now)) c.args.first (length c.deref_mut.result.now) c.in-Ok.text.len c.read_bytes.new.into
    c.in-Ok.text.items (omega (arith, c.read_bytes.ensures.length, c.deref_mut.ensures.len)) (c.in-Ok-read_bytes.ensures.whole honest)
    (c.in-Ok-read_bytes.ensures.read honest)

pub returns-in-Ok-read_bytes-clause-len : goal.returns-in-Ok-read_bytes-clause-len
returns-in-Ok-read_bytes-clause-len g c = grind (arith, common_steps)
