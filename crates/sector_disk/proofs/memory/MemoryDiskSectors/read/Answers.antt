-- With an answer the must-fail edit disk_never_honest is refused at once.
use Rattle.sector_disk.proofs.memory.MemoryDiskSectors.read.Goals as goal

pub returns-clause-stays_honest : goal.returns-clause-stays_honest
returns-clause-stays_honest c = tt
