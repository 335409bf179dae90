use Rattle.std.proofs.Common.{arith}
use Rattle.area_content.proofs.Pieces.{parts_padded}
use Rattle.area_content.proofs.content.padded_parts.Goals as goal

pub returns : goal.returns
returns c =
    parts_padded c.args.first.now c.args.second.now c.padded-sector.result c.copy_from_slice.new.self _ c.requires c.padded-sector.ensures
    c.copy_from_slice.ensures.after (omega arith)
