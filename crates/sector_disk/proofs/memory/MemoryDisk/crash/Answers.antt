-- With an answer the must-fail edit disk_never_honest is refused at once.
use Rattle.sector_disk.proofs.memory.MemoryDisk.crash.Goals as goal

pub returns-clause-honest : goal.returns-clause-honest
returns-clause-honest c = tt
