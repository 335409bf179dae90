-- With an answer the must-fail edit overlapping_runs_read is refused at once.
use Rattle.std.proofs.Common.{rules}
use Rattle.pm_directory.proofs.reading.id_behind.Goals as goal

pub returns-in-Some-2 : goal.returns-in-Some-2
returns-in-Some-2 c = search rules
