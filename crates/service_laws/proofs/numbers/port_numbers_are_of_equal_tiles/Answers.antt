use Rattle.service_laws.proofs.PortNumbers.{numbers_inside}
use Rattle.service_laws.proofs.numbers.port_numbers_are_of_equal_tiles.Goals as goal

pub returns : goal.returns
returns g c = let d = g.D.Sectors in numbers_inside d.sectors d.honest d.history
