use Rattle.std.proofs.Common.{◌≡◌, ◌∙◌, refl, arith}
use Rattle.std.proofs.lemmas.Result.{IfOk-from_err}
use Rattle.sector_disk.specs.Disk.{Image, MayLeave}
use Rattle.sector_disk.specs.Disk.History.{wrote, synced}
use Rattle.sector_disk.specs.Moments.{LeavesOnly}
use Rattle.sector_disk.proofs.AskedLaws.{writes_on}
use Rattle.generations.specs.Disks.{IsFresh}
use Rattle.generations.proofs.Exits.{failed_after}
use Rattle.generations.proofs.Parts.{Formats, first_leaves, second_leaves, third_leaves, fourth}
use Rattle.generations.proofs.formatting.write_parts.Given as given
use Rattle.generations.proofs.formatting.write_parts.Goals as goal
use Rattle.generations.proofs.formatting.write_parts.Goals.{After-write_and_sync-3}

pub returns-in_err-write_and_sync-clause-any_moment : goal.returns-in_err-write_and_sync-clause-any_moment
returns-in_err-write_and_sync-clause-any_moment g c honest = first_leaves _ _ _ _ (c.write_and_sync.ensures.leaves honest)

pub returns-in_err-clear-clause-any_moment : goal.returns-in_err-clear-clause-any_moment
returns-in_err-clear-clause-any_moment g c honest =
    let one = c.clear.ensures.disk.was_honest honest in
    second_leaves _ _ _ _ (c.write_and_sync.ensures.leaves one) (c.in_ok-write_and_sync.ensures.stands one) _ (c.clear.ensures.leaves honest)

pub returns-in_err-write_and_sync-2-clause-any_moment : goal.returns-in_err-write_and_sync-2-clause-any_moment
returns-in_err-write_and_sync-2-clause-any_moment g c honest =
    let two = c.write_and_sync-2.ensures.disk.was_honest honest in
    let one = c.clear.ensures.disk.was_honest two in
    third_leaves _ _ _ _ (c.write_and_sync.ensures.leaves one) (c.in_ok-write_and_sync.ensures.stands one) _ (c.clear.ensures.leaves two)
    (c.clear.ensures.within two) (λ at pos lt. c.in_ok-clear.ensures.empty two at pos (omega (arith, lt, c.args.layout.journal_is)))
    _ c.root_bytes-first.ensures _ (c.write_and_sync-2.ensures.leaves honest)

-- after the last write: what a crash may leave at any moment, and what it leaves once the format is written
written : (g : given.Over) (c : After-write_and_sync-3 g) → g.D.Sectors.honest c.write_and_sync-3.new.disk
    → LeavesOnly (g.D.Sectors.history c.args.disk.now) (g.D.Sectors.history c.write_and_sync-3.new.disk)
    (Formats c.args.version c.args.layout.sectors (g.D.Sectors.history c.args.disk.now))
    × (g.D.Sectors.history c.write_and_sync-3.new.disk ≡ synced (wrote 0 c.format_bytes-format.result (g.D.Sectors.history c.write_and_sync-2.new.disk))
    → (image : Image) → MayLeave (g.D.Sectors.history c.write_and_sync-3.new.disk) image → IsFresh c.args.version c.args.layout.sectors image)
written g c honest =
    let three = c.write_and_sync-3.ensures.disk.was_honest honest in
    let two = c.write_and_sync-2.ensures.disk.was_honest three in
    let one = c.clear.ensures.disk.was_honest two in
    fourth _ _ _ _ (c.write_and_sync.ensures.leaves one) (c.in_ok-write_and_sync.ensures.stands one) _ (c.clear.ensures.leaves two)
    (c.clear.ensures.within two) (λ at pos lt. c.in_ok-clear.ensures.empty two at pos (omega (arith, lt, c.args.layout.journal_is)))
    _ c.root_bytes-first.ensures _ (c.write_and_sync-2.ensures.leaves three) (c.in_ok-write_and_sync-2.ensures.stands three)
    _ c.format_bytes-format.ensures _ (c.write_and_sync-3.ensures.leaves honest)

pub returns-in_err-write_and_sync-3-clause-any_moment : goal.returns-in_err-write_and_sync-3-clause-any_moment
returns-in_err-write_and_sync-3-clause-any_moment g c honest =
    (written g (goal.at.returns-in_err-write_and_sync-3-clause-any_moment g c).After-write_and_sync-3 honest).0

pub returns-clause-any_moment : goal.returns-clause-any_moment
returns-clause-any_moment g c honest = (written g (goal.at.returns-clause-any_moment g c).After-write_and_sync-3 honest).0

pub returns-clause-fresh : goal.returns-clause-fresh
returns-clause-fresh g c honest =
    (written g (goal.at.returns-clause-fresh g c).After-write_and_sync-3 honest).1 (c.in_ok-write_and_sync-3.ensures.stands honest)

-- a `?` that returns returns the fault of its call
pub returns-in_err-write_and_sync-clause-fresh : goal.returns-in_err-write_and_sync-clause-fresh
returns-in_err-write_and_sync-clause-fresh g c honest = IfOk-from_err _ _ c.from_residual.ensures.0

pub returns-in_err-clear-clause-fresh : goal.returns-in_err-clear-clause-fresh
returns-in_err-clear-clause-fresh g c honest = IfOk-from_err _ _ c.from_residual-in_err-clear.ensures.0

pub returns-in_err-write_and_sync-2-clause-fresh : goal.returns-in_err-write_and_sync-2-clause-fresh
returns-in_err-write_and_sync-2-clause-fresh g c honest = IfOk-from_err _ _ c.from_residual-in_err-write_and_sync-2.ensures.0

pub returns-in_err-write_and_sync-3-clause-fresh : goal.returns-in_err-write_and_sync-3-clause-fresh
returns-in_err-write_and_sync-3-clause-fresh g c honest = IfOk-from_err _ _ c.from_residual-in_err-write_and_sync-3.ensures.0

pub returns-in_err-write_and_sync-clause-failed : goal.returns-in_err-write_and_sync-clause-failed
returns-in_err-write_and_sync-clause-failed g c = failed_after _ _ c.from_residual.ensures.0 refl c.in_err-write_and_sync.ensures.failed

pub returns-in_err-clear-clause-failed : goal.returns-in_err-clear-clause-failed
returns-in_err-clear-clause-failed g c =
    failed_after _ _ c.from_residual-in_err-clear.ensures.0 c.in_ok-write_and_sync.ensures.failed c.in_err-clear.ensures.failed

pub returns-in_err-write_and_sync-2-clause-failed : goal.returns-in_err-write_and_sync-2-clause-failed
returns-in_err-write_and_sync-2-clause-failed g c = failed_after _ _ c.from_residual-in_err-write_and_sync-2.ensures.0
    (c.in_ok-clear.ensures.failed ∙ c.in_ok-write_and_sync.ensures.failed) c.in_err-write_and_sync-2.ensures.failed

pub returns-in_err-write_and_sync-3-clause-failed : goal.returns-in_err-write_and_sync-3-clause-failed
returns-in_err-write_and_sync-3-clause-failed g c = failed_after _ _ c.from_residual-in_err-write_and_sync-3.ensures.0
    (c.in_ok-write_and_sync-2.ensures.failed ∙ c.in_ok-clear.ensures.failed ∙ c.in_ok-write_and_sync.ensures.failed)
    c.in_err-write_and_sync-3.ensures.failed

pub returns-clause-failed : goal.returns-clause-failed
returns-clause-failed g c = c.in_ok-write_and_sync-3.ensures.failed ∙ c.in_ok-write_and_sync-2.ensures.failed ∙ c.in_ok-clear.ensures.failed
    ∙ c.in_ok-write_and_sync.ensures.failed

-- what calls ensure that may write, one after the other
pub returns-in_err-clear-clause-disk : goal.returns-in_err-clear-clause-disk
returns-in_err-clear-clause-disk g c = writes_on c.write_and_sync.ensures.disk c.clear.ensures.disk

pub returns-in_err-write_and_sync-2-clause-disk : goal.returns-in_err-write_and_sync-2-clause-disk
returns-in_err-write_and_sync-2-clause-disk g c =
    writes_on (writes_on c.write_and_sync.ensures.disk c.clear.ensures.disk) c.write_and_sync-2.ensures.disk

pub returns-in_err-write_and_sync-3-clause-disk : goal.returns-in_err-write_and_sync-3-clause-disk
returns-in_err-write_and_sync-3-clause-disk g c =
    writes_on (writes_on (writes_on c.write_and_sync.ensures.disk c.clear.ensures.disk) c.write_and_sync-2.ensures.disk) c.write_and_sync-3.ensures.disk

pub returns-clause-disk : goal.returns-clause-disk
returns-clause-disk g c =
    writes_on (writes_on (writes_on c.write_and_sync.ensures.disk c.clear.ensures.disk) c.write_and_sync-2.ensures.disk) c.write_and_sync-3.ensures.disk
