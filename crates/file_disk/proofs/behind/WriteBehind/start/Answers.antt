-- The first one is a write, and there was none before.
use Rattle.std.proofs.Common.{rules, ◌∙◌, ap, sym, ℕ}
use Rattle.sector_disk.specs.Disk.History.{wrote}
use Rattle.file_disk.specs.Runs.{wrote_first}
use Rattle.file_disk.proofs.FileCalls.{pushed}
use Rattle.file_disk.proofs.behind.WriteBehind.start.Goals as goal

pub returns-clause-wrote : goal.returns-clause-wrote
returns-clause-wrote c h = pushed c.args.at 0 c.args.at c.args.self.now.sectors c.args.from.now h (search rules) (search rules)
    ∙ ap (λ (n : ℕ). wrote c.args.at c.args.from.now (wrote_first c.args.self.now.first n c.args.self.now.sectors h)) (sym c.requires)
