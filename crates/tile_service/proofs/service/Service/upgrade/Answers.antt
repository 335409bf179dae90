use Rattle.tile_service.proofs.Disk.Upgraded.{upgrade_leaves, upgrade_keeps, upgrade_refused}
use Rattle.tile_service.proofs.service.Service.upgrade.Goals as goal

pub returns-clause-any_moment : goal.returns-clause-any_moment
returns-clause-any_moment g c n stored honest holds = upgrade_leaves (g.D.Sectors.sectors c.args.disk.now) n stored (g.D.Sectors.history c.args.disk.now)
    (g.D.Sectors.history c.upgrade.new.disk) holds (c.upgrade.ensures.any_moment honest)

pub returns-clause-upgraded : goal.returns-clause-upgraded
returns-clause-upgraded g c n stored honest holds = upgrade_keeps (g.D.Sectors.sectors c.args.disk.now) n stored (g.D.Sectors.history c.args.disk.now)
    (g.D.Sectors.history c.upgrade.new.disk) holds (g.D.Sectors.sectors c.upgrade.new.disk) c.upgrade.result c.upgrade.ensures.disk.same_count
    (c.upgrade.ensures.upgraded honest)

pub returns-clause-refused : goal.returns-clause-refused
returns-clause-refused g c n stored honest holds = upgrade_refused (g.D.Sectors.sectors c.args.disk.now) n stored (g.D.Sectors.history c.args.disk.now)
    (g.D.Sectors.history c.upgrade.new.disk) holds c.upgrade.result (c.upgrade.ensures.fault honest)
