use Rattle.std.proofs.Common.{length, refl}
use Rattle.std.proofs.lemmas.Result.{on_ok_weaker}
use Rattle.sector_bytes.proofs.Pieces.{whole_read}
use Rattle.sector_bytes.specs.Source.{untouched_none}
use Rattle.sector_bytes.proofs.source.SectorBytes.read_part.Goals as goal
use Rattle.sector_bytes.proofs.source.SectorBytes.read_part.Goals.{then-ne+in_default+in_ok-read_sector, else-ne}

pub returns-clause-untouched : goal.returns-clause-untouched
returns-clause-untouched g c = elim c.if-ne.branch [
  | then-ne+in_default+in_ok-read_sector w ↦ rw w.self-is w.in_ok-read_sector.ensures.untouched
  | else-ne w ↦ rw w.self-is (untouched_none _)
]

pub returns-in-Some-clause-read : goal.returns-in-Some-clause-read
returns-in-Some-clause-read g c = λ honest.
    on_ok_weaker c.read_whole.result (whole_read _ c.read_whole.new.into c.args.offset (length c.args.into.now) (c.in-Some.ensures.variant.0 refl)
    c.requires.fits c.read_whole.ensures.length)
    (c.read_whole.ensures.read honest)
