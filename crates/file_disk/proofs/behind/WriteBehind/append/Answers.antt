-- One more is the last write.
use Rattle.std.proofs.Common.{rules}
use Rattle.file_disk.proofs.FileCalls.{pushed}
use Rattle.file_disk.proofs.behind.WriteBehind.append.Goals as goal

pub returns-clause-wrote : goal.returns-clause-wrote
returns-clause-wrote c h = pushed c.args.self.now.first c.args.self.now.len c.args.at c.args.self.now.sectors c.args.from.now h (search rules) c.requires.on
