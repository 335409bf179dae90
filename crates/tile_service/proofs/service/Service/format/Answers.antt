use Rattle.std.proofs.Common.{ap}
use Rattle.tile_service.proofs.Disk.Formatted.{formatting_leaves, formatted_keeps}
use Rattle.tile_service.proofs.service.Service.format.Goals as goal

pub returns-clause-any_moment : goal.returns-clause-any_moment
returns-clause-any_moment g c honest = formatting_leaves (g.D.Sectors.sectors c.args.disk.now) (g.D.Sectors.history c.args.disk.now)
    (g.D.Sectors.history c.format.new.disk) (λ none. ap g.D.Sectors.history (c.format.ensures.untouched none)) (c.format.ensures.any_moment honest)

pub returns-clause-formatted : goal.returns-clause-formatted
returns-clause-formatted g c honest = formatted_keeps (g.D.Sectors.sectors c.args.disk.now) (g.D.Sectors.history c.format.new.disk) c.format.result
    c.format.ensures.ends.small c.format.ensures.ends.large (c.format.ensures.fresh honest)
