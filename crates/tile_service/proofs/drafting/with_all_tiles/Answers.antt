use Rattle.std.proofs.Common.{subst}
use Rattle.area_content.specs.Faults.{IsContentFault}
use Rattle.tile_service.proofs.Publications.Drafts.{told_of}
use Rattle.tile_service.proofs.drafting.with_all_tiles.Goals as goal

pub returns-in-Err : goal.returns-in-Err
returns-in-Err c =
    let content = c.args.content in
    rw c.refused-in-Err.ensures (told_of c.args.moment.now.features content.area content.metadata c.in-Err.fault c.to_service_fault.result c.to_service_fault.ensures
    c.requires.making.metadata
    (subst (λ m. IsContentFault m content.metadata content.area c.in-Err.fault) c.requires.making.map_is c.in-Err.ensures.fault))
