use Rattle.std.proofs.Common.{ap}
use Rattle.disk_copy.proofs.Noting.{read_goes_on}
use Rattle.disk_copy.proofs.watched.SharedDiskSharedSectors.read_anew.Goals as goal

pub returns-clause-later : goal.returns-clause-later
returns-clause-later g c =
    let old = c.args.self.now.reads.value in
    let new = c.read_noted.new.self.reads.value in
    let both = read_goes_on g.M.Moments.images g.M.Moments.opened g.M.Moments.waits old new c.args.at c.read_noted.new.into c.read_noted.result
    c.read_noted.ensures.noted c.read_noted.ensures.unchanged (λ is. ap (λ s. s.value) is) in
    record { later = both.0; was_shared = both.1 }
