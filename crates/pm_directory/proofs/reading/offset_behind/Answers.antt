-- With an answer the must-fail edit first_offset_zero_read is refused at once.
use Rattle.std.proofs.Common.{rules}
use Rattle.pm_directory.proofs.reading.offset_behind.Goals as goal

pub returns-in-None : goal.returns-in-None
returns-in-None c = search rules
