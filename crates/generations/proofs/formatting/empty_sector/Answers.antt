use Rattle.std.proofs.lemmas.Grind.{common_steps}
use Rattle.std.proofs.Common.{refl, ◌∙◌, ap, arith}
use Rattle.sector_disk.specs.Disk.{History, seen}
use Rattle.sector_disk.proofs.History.{seen_same}
use Rattle.generations.specs.Sectors.{zeros}
use Rattle.generations.proofs.Parts.{wrote_leaves}
use Rattle.generations.proofs.formatting.empty_sector.Goals as goal

pub returns-in_err-write-clause-leaves : goal.returns-in_err-write-clause-leaves
returns-in_err-write-clause-leaves g c honest = wrote_leaves _ c.args.at zeros c.write.result _ (c.write.ensures.writes honest)

pub returns-clause-leaves : goal.returns-clause-leaves
returns-clause-leaves g c honest = wrote_leaves _ c.args.at zeros c.write.result _ (c.write.ensures.writes honest)

pub returns-clause-empty : goal.returns-clause-empty
returns-clause-empty g c honest =
    ap (λ (h : History). seen h c.args.at) (c.in_ok-write.ensures.writes honest)
    ∙ seen_same c.args.at zeros (g.D.Sectors.history c.args.disk.now) c.args.at refl

pub returns-clause-others : goal.returns-clause-others
returns-clause-others g c = grind (arith, common_steps)
