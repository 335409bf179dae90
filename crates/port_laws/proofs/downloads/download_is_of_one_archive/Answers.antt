use Rattle.port_laws.proofs.OneArchive.{download_part}
use Rattle.port_laws.proofs.downloads.download_is_of_one_archive.Goals as goal

pub returns : goal.returns
returns g c = download_part g.D.Sectors.sectors g.D.Sectors.honest g.D.Sectors.history g.D.Sectors.faults
