use Rattle.std.proofs.Common.{◌∙◌, inl, refl, arith}
use Rattle.sector_disk.proofs.AskedLaws.{writes_on}
use Rattle.generations.proofs.Parts.{emptied_start, empty_within, empty_leaves, empty_seen}
use Rattle.generations.proofs.formatting.write_zeros.Goals as goal

pub loop-at-init : goal.loop-at-init
loop-at-init g c = record {
  disk = record { same_count = refl; was_honest = λ is. is };
  faults = refl;
  leaves = λ honest. emptied_start _;
  within = λ honest at left may. inl may;
  empty = λ honest at pos lt. absurd (omega arith);
}

pub returns-in_err-empty_sector-clause-leaves : goal.returns-in_err-empty_sector-clause-leaves
returns-in_err-empty_sector-clause-leaves g c honest =
    let inv = c.loop-at.invariant in
    let before = c.empty_sector.ensures.disk.was_honest honest in
    empty_leaves _ c.loop-at.at (omega arith) _ _ (inv.within before) (c.empty_sector.ensures.leaves honest) (inv.leaves before)

pub returns-in_err-empty_sector-clause-within : goal.returns-in_err-empty_sector-clause-within
returns-in_err-empty_sector-clause-within g c honest =
    let before = c.empty_sector.ensures.disk.was_honest honest in
    empty_within _ c.loop-at.at (omega arith) _ _ (c.loop-at.invariant.within before) (c.empty_sector.ensures.within honest)

pub loop-at-preserved : goal.loop-at-preserved
loop-at-preserved g c =
    let inv = c.loop-at.invariant in
    let ok = c.in_ok-empty_sector.ensures in
    record {
      disk = writes_on inv.disk ok.disk;
      faults = ok.failed ∙ inv.faults;
      leaves = λ honest. empty_leaves _ c.loop-at.at (omega arith) _ _ (inv.within (ok.disk.was_honest honest))
          (ok.leaves honest) (inv.leaves (ok.disk.was_honest honest));
      within = λ honest. empty_within _ c.loop-at.at (omega arith) _ _ (inv.within (ok.disk.was_honest honest)) (ok.within honest);
      empty = λ honest. empty_seen c.loop-at.at (g.D.Sectors.history c.loop-at.disk) (g.D.Sectors.history c.empty_sector.new.disk)
          (ok.empty honest) (ok.others honest) (inv.empty (ok.disk.was_honest honest));
    }
