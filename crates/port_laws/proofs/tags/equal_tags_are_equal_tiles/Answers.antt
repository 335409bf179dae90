use Rattle.port_laws.proofs.TagLemmas.{equal_tags}
use Rattle.port_laws.proofs.tags.equal_tags_are_equal_tiles.Goals as goal

pub returns : goal.returns
returns g c = equal_tags g.D.Sectors.sectors g.D.Sectors.honest g.D.Sectors.history g.D.Sectors.faults
