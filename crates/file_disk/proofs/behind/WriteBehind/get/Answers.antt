-- The sectors that are kept are the last writes of the history.
use Rattle.std.proofs.Common.{refl, rules, ◌+◌}
use Rattle.sector_disk.specs.Disk.{seen}
use Rattle.file_disk.specs.Runs.{wrote_first}
use Rattle.file_disk.proofs.FileCalls.{first_among, first_beside}
use Rattle.file_disk.proofs.behind.WriteBehind.get.Goals as goal

pub returns-clause-given : goal.returns-clause-given
returns-clause-given c true h =
    let behind = c.args.self.now in
    c.get_from.ensures.given true (seen (wrote_first behind.first behind.len behind.sectors h))
    (λ index lt. first_among behind.first behind.len behind.sectors h index (behind.first + index) (search rules) lt refl)

pub returns-clause-other : goal.returns-clause-other
returns-clause-other c other h =
    first_beside c.args.self.now.first c.args.self.now.len c.args.self.now.sectors h c.args.at (search rules) (c.get_from.ensures.other other)
