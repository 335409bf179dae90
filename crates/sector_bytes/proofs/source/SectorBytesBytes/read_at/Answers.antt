use Rattle.std.proofs.Common.{◌≤◌, ◌+◌, ◌∙◌, ℕ, subst, arith, length}
use Rattle.std.proofs.lemmas.Result.{on_ok_weaker}
use Rattle.sector_disk.specs.Disk.{History, seen}
use Rattle.sector_bytes.specs.Bytes.{StandsIn}
use Rattle.sector_bytes.proofs.Counts.{told_risen}
use Rattle.sector_bytes.proofs.Laws.{stands_read}
use Rattle.sector_bytes.proofs.source.SectorBytesBytes.read_at.Goals as goal

pub returns-clause-gives : goal.returns-clause-gives
returns-clause-gives g c bytes held =
    let told = c.read_parts.ensures in
    let n = length c.args.into.now in
    let image = seen (g.D.Sectors.history c.args.self.now.disk.now) in
    let stands : StandsIn c.args.self.now.first bytes image =
    subst (λ (h : History). StandsIn c.args.self.now.first bytes (seen h)) (told.untouched.same_history held.0)
    (subst (λ (first : ℕ). StandsIn first bytes (seen (g.D.Sectors.history c.read_parts.new.self.disk.now))) told.untouched.same_first held.1.stands) in
    let within : c.args.at + n ≤ length bytes = omega (arith, c.requires, held.1.length_is, told.len) in
    on_ok_weaker c.read_parts.result (λ is. is ∙ stands_read image c.args.self.now.first c.args.at n bytes stands within) (told.read held.0)

pub returns-clause-fault : goal.returns-clause-fault
returns-clause-fault g c = told_risen c.read_parts.result _ _ c.read_parts.ensures.failed
