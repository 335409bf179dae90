use Rattle.port_laws.proofs.TagLemmas.{equal_inside}
use Rattle.port_laws.proofs.tags.equal_tags_are_equal_tiles_inside.Goals as goal

pub returns : goal.returns
returns g c = equal_inside g.D.Sectors.sectors g.D.Sectors.honest g.D.Sectors.history g.D.Sectors.faults
