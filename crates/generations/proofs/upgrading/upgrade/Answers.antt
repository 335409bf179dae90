use Rattle.std.proofs.Common.{◌≡◌, inl, inr, ⊎_elim, ℕ, sym, ap, subst, ◌∙◌, arith, refl}
use Rattle.sector_disk.specs.Disk.{History, moment, seen}
use Rattle.sector_disk.specs.Disk.History.{synced}
use Rattle.sector_disk.proofs.AskedLaws.{reads_may, writes_on}
use Rattle.sector_disk.proofs.History.{any_sync}
use Rattle.generations.specs.Disks.{IsFaultOf}
use Rattle.generations.specs.Sectors.{IsFormat, version_from}
use Rattle.generations.proofs.Upgrades.{sync_upgrades, upgraded_already, write_upgrades, upgraded_now}
use Rattle.generations.specs.Faults.{CountsDevice}
use Rattle.generations.proofs.upgrading.upgrade.Goals as goal

pub returns-in-Err-clause-any_moment : goal.returns-in-Err-clause-any_moment
returns-in-Err-clause-any_moment g c = λ honest. sync_upgrades _ _ _ (any_sync c.sync.result _ _ (c.sync.ensures.syncs honest))

pub returns-in-Err-read_layout-clause-fault : goal.returns-in-Err-read_layout-clause-fault
returns-in-Err-read_layout-clause-fault g c = λ honest.
    let mid = c.in-Ok.ensures.syncs (c.read_layout.ensures.disk.was_honest honest) in
    let fault = c.in-Err-read_layout.fault in
    ⊎_elim (λ e. inl e)
    (λ (is : IsFaultOf (g.D.Sectors.sectors c.sync.new.self) (seen (g.D.Sectors.history c.sync.new.self)) fault).
    inr (subst (λ n. IsFaultOf n (seen (g.D.Sectors.history c.args.disk.now)) fault) c.sync.ensures.disk.same_count
    (subst (λ (h : History). IsFaultOf (g.D.Sectors.sectors c.sync.new.self) (seen h) fault) mid is)))
    (c.in-Err-read_layout.ensures.fault honest)

pub returns-in-Err-read_layout-clause-any_moment : goal.returns-in-Err-read_layout-clause-any_moment
returns-in-Err-read_layout-clause-any_moment g c = λ honest.
    sync_upgrades _ _ _ (inr (c.read_layout.ensures.disk.same_history honest ∙ c.in-Ok.ensures.syncs (c.read_layout.ensures.disk.was_honest honest)))

pub returns-then-version-eq-LAST_VERSION-clause-any_moment : goal.returns-then-version-eq-LAST_VERSION-clause-any_moment
returns-then-version-eq-LAST_VERSION-clause-any_moment g c = λ honest.
    sync_upgrades _ _ _ (inr (c.read_layout.ensures.disk.same_history honest ∙ c.in-Ok.ensures.syncs (c.read_layout.ensures.disk.was_honest honest)))

-- what was read of the disk of before
format_read : (old mid : History) (count there n : ℕ) → there ≡ count → mid ≡ synced old → IsFormat there (seen mid 0) n → IsFormat count (seen old 0) n
format_read old mid count there n same is format =
    subst (λ (k : ℕ). IsFormat k (seen old 0) n) same (subst (λ (h : History). IsFormat there (seen h 0) n) is format)

version_read : (old mid : History) (version : ℕ) → mid ≡ synced old → version ≡ version_from (seen mid 0) → version_from (seen old 0) ≡ version
version_read old mid version is read = sym (subst (λ (h : History). version ≡ version_from (seen h 0)) is read)

pub returns-then-version-eq-LAST_VERSION-clause-upgraded : goal.returns-then-version-eq-LAST_VERSION-clause-upgraded
returns-then-version-eq-LAST_VERSION-clause-upgraded g c = λ honest.
    let before = c.in-Ok.ensures.syncs (c.read_layout.ensures.disk.was_honest honest) in
    let format = format_read _ _ _ _ c.in-Ok-read_layout.found.0.sectors c.sync.ensures.disk.same_count before (c.in-Ok-read_layout.ensures.format honest) in
    let version = version_read _ _ c.in-Ok-read_layout.found.1 before (c.in-Ok-read_layout.ensures.version honest) in
    upgraded_already _ _ _ (c.read_layout.ensures.disk.same_history honest ∙ before) c.in-Ok-read_layout.found.0.sectors format
    (version ∙ c.if-version-eq-LAST_VERSION.true)

pub returns-in-Ok-write_and_sync-clause-any_moment : goal.returns-in-Ok-write_and_sync-clause-any_moment
returns-in-Ok-write_and_sync-clause-any_moment g c = λ honest.
    let there = c.write_and_sync.ensures.disk.was_honest honest in
    let before = c.in-Ok.ensures.syncs (c.read_layout.ensures.disk.was_honest there) in
    let format = format_read _ _ _ _ c.in-Ok-read_layout.found.0.sectors c.sync.ensures.disk.same_count before (c.in-Ok-read_layout.ensures.format there) in
    write_upgrades _ _ _ (c.read_layout.ensures.disk.same_history there ∙ before) c.in-Ok-read_layout.found.0.sectors format
    c.format_bytes-format.result c.format_bytes-format.ensures _ (c.write_and_sync.ensures.leaves honest)

pub returns-in-Ok-write_and_sync-clause-upgraded : goal.returns-in-Ok-write_and_sync-clause-upgraded
returns-in-Ok-write_and_sync-clause-upgraded g c = λ honest.
    let there = c.write_and_sync.ensures.disk.was_honest honest in
    let before = c.in-Ok.ensures.syncs (c.read_layout.ensures.disk.was_honest there) in
    let format = format_read _ _ _ _ c.in-Ok-read_layout.found.0.sectors c.sync.ensures.disk.same_count before (c.in-Ok-read_layout.ensures.format there) in
    upgraded_now _ _ _ (c.read_layout.ensures.disk.same_history there ∙ before) c.in-Ok-read_layout.found.0.sectors format
    c.format_bytes-format.result c.format_bytes-format.ensures _ (c.in-Ok-write_and_sync.ensures.stands honest)

pub returns-in-Err-write_and_sync-clause-any_moment : goal.returns-in-Err-write_and_sync-clause-any_moment
returns-in-Err-write_and_sync-clause-any_moment g c = λ honest.
    let there = c.write_and_sync.ensures.disk.was_honest honest in
    let before = c.in-Ok.ensures.syncs (c.read_layout.ensures.disk.was_honest there) in
    let format = format_read _ _ _ _ c.in-Ok-read_layout.found.0.sectors c.sync.ensures.disk.same_count before (c.in-Ok-read_layout.ensures.format there) in
    write_upgrades _ _ _ (c.read_layout.ensures.disk.same_history there ∙ before) c.in-Ok-read_layout.found.0.sectors format
    c.format_bytes-format.result c.format_bytes-format.ensures _ (c.write_and_sync.ensures.leaves honest)

pub returns-in-Err-read_layout-clause-disk : goal.returns-in-Err-read_layout-clause-disk
returns-in-Err-read_layout-clause-disk g c = writes_on c.sync.ensures.disk (reads_may c.read_layout.ensures.disk)

pub returns-in-Err-read_layout-clause-steps : goal.returns-in-Err-read_layout-clause-steps
returns-in-Err-read_layout-clause-steps g c honest =
    let before = c.in-Ok.ensures.syncs (c.read_layout.ensures.disk.was_honest honest) in
    omega (arith, ap moment (c.read_layout.ensures.disk.same_history honest ∙ before))

pub returns-then-version-eq-LAST_VERSION-clause-disk : goal.returns-then-version-eq-LAST_VERSION-clause-disk
returns-then-version-eq-LAST_VERSION-clause-disk g c = writes_on c.sync.ensures.disk (reads_may c.read_layout.ensures.disk)

pub returns-in-Ok-write_and_sync-clause-disk : goal.returns-in-Ok-write_and_sync-clause-disk
returns-in-Ok-write_and_sync-clause-disk g c =
    writes_on (writes_on c.sync.ensures.disk (reads_may c.read_layout.ensures.disk)) c.write_and_sync.ensures.disk

pub returns-in-Ok-write_and_sync-clause-failed : goal.returns-in-Ok-write_and_sync-clause-failed
returns-in-Ok-write_and_sync-clause-failed g c = c.in-Ok-write_and_sync.ensures.failed ∙ c.in-Ok-read_layout.ensures.failed ∙ c.in-Ok.ensures.faults

pub returns-in-Ok-write_and_sync-clause-steps : goal.returns-in-Ok-write_and_sync-clause-steps
returns-in-Ok-write_and_sync-clause-steps g c honest =
    let there = c.write_and_sync.ensures.disk.was_honest honest in
    let before = c.in-Ok.ensures.syncs (c.read_layout.ensures.disk.was_honest there) in
    omega (arith, c.write_and_sync.ensures.steps honest, ap moment (c.read_layout.ensures.disk.same_history there ∙ before))

pub returns-in-Ok-write_and_sync-clause-already : goal.returns-in-Ok-write_and_sync-clause-already
returns-in-Ok-write_and_sync-clause-already g c honest last =
    let there = c.write_and_sync.ensures.disk.was_honest honest in
    let before = c.in-Ok.ensures.syncs (c.read_layout.ensures.disk.was_honest there) in
    absurd (c.if-version-eq-LAST_VERSION.false (sym (version_read _ _ c.in-Ok-read_layout.found.1 before (c.in-Ok-read_layout.ensures.version there)) ∙ last))

pub returns-in-Err-write_and_sync-clause-disk : goal.returns-in-Err-write_and_sync-clause-disk
returns-in-Err-write_and_sync-clause-disk g c =
    writes_on (writes_on c.sync.ensures.disk (reads_may c.read_layout.ensures.disk)) c.write_and_sync.ensures.disk

pub returns-in-Err-write_and_sync-clause-failed : goal.returns-in-Err-write_and_sync-clause-failed
returns-in-Err-write_and_sync-clause-failed g c =
    rw (← c.in-Ok.ensures.faults, ← c.in-Ok-read_layout.ensures.failed) c.in-Err-write_and_sync.ensures.failed

pub returns-in-Err-write_and_sync-clause-steps : goal.returns-in-Err-write_and_sync-clause-steps
returns-in-Err-write_and_sync-clause-steps g c honest =
    let there = c.write_and_sync.ensures.disk.was_honest honest in
    let before = c.in-Ok.ensures.syncs (c.read_layout.ensures.disk.was_honest there) in
    omega (arith, c.write_and_sync.ensures.steps honest, ap moment (c.read_layout.ensures.disk.same_history there ∙ before))

pub returns-in-Err-clause-disk : goal.returns-in-Err-clause-disk
returns-in-Err-clause-disk g c = c.sync.ensures.disk

pub returns-in-Err-clause-only : goal.returns-in-Err-clause-only
returns-in-Err-clause-only g c = inr (inr refl)

pub returns-in-Err-clause-fault : goal.returns-in-Err-clause-fault
returns-in-Err-clause-fault g c honest = inl refl

pub returns-in-Err-clause-unwritten : goal.returns-in-Err-clause-unwritten
returns-in-Err-clause-unwritten g c honest = inl refl

pub returns-in-Err-clause-already : goal.returns-in-Err-clause-already
returns-in-Err-clause-already g c honest last = c.in-Err.ensures.syncs honest

pub returns-in-Err-read_layout-clause-failed : goal.returns-in-Err-read_layout-clause-failed
returns-in-Err-read_layout-clause-failed g c = subst (λ (count : ℕ). CountsDevice c.in-Err-read_layout.fault count (g.D.Sectors.faults c.read_layout.new.disk))
    c.in-Ok.ensures.faults c.in-Err-read_layout.ensures.failed

pub returns-in-Err-read_layout-clause-only : goal.returns-in-Err-read_layout-clause-only
returns-in-Err-read_layout-clause-only g c = c.in-Err-read_layout.ensures.only

pub returns-in-Err-read_layout-clause-unwritten : goal.returns-in-Err-read_layout-clause-unwritten
returns-in-Err-read_layout-clause-unwritten g c honest =
    inr (c.read_layout.ensures.disk.same_history honest ∙ c.in-Ok.ensures.syncs (c.read_layout.ensures.disk.was_honest honest))

pub returns-in-Err-read_layout-clause-already : goal.returns-in-Err-read_layout-clause-already
returns-in-Err-read_layout-clause-already g c honest last =
    inr (c.read_layout.ensures.disk.same_history honest ∙ c.in-Ok.ensures.syncs (c.read_layout.ensures.disk.was_honest honest))

pub returns-in-Err-read_layout-clause-others : goal.returns-in-Err-read_layout-clause-others
returns-in-Err-read_layout-clause-others g c honest at other =
    ap (λ (h : History). seen h at) (c.read_layout.ensures.disk.same_history honest ∙ c.in-Ok.ensures.syncs (c.read_layout.ensures.disk.was_honest honest))

pub returns-then-version-eq-LAST_VERSION-clause-failed : goal.returns-then-version-eq-LAST_VERSION-clause-failed
returns-then-version-eq-LAST_VERSION-clause-failed g c = c.in-Ok-read_layout.ensures.failed ∙ c.in-Ok.ensures.faults

pub returns-then-version-eq-LAST_VERSION-clause-steps : goal.returns-then-version-eq-LAST_VERSION-clause-steps
returns-then-version-eq-LAST_VERSION-clause-steps g c honest =
    let before = c.in-Ok.ensures.syncs (c.read_layout.ensures.disk.was_honest honest) in
    omega (arith, ap moment (c.read_layout.ensures.disk.same_history honest ∙ before))

pub returns-then-version-eq-LAST_VERSION-clause-already : goal.returns-then-version-eq-LAST_VERSION-clause-already
returns-then-version-eq-LAST_VERSION-clause-already g c honest last =
    inr (c.read_layout.ensures.disk.same_history honest ∙ c.in-Ok.ensures.syncs (c.read_layout.ensures.disk.was_honest honest))

pub returns-then-version-eq-LAST_VERSION-clause-others : goal.returns-then-version-eq-LAST_VERSION-clause-others
returns-then-version-eq-LAST_VERSION-clause-others g c honest at other =
    ap (λ (h : History). seen h at) (c.read_layout.ensures.disk.same_history honest ∙ c.in-Ok.ensures.syncs (c.read_layout.ensures.disk.was_honest honest))

pub returns-in-Err-write_and_sync-clause-only : goal.returns-in-Err-write_and_sync-clause-only
returns-in-Err-write_and_sync-clause-only g c = inr (inr refl)

pub returns-in-Err-write_and_sync-clause-fault : goal.returns-in-Err-write_and_sync-clause-fault
returns-in-Err-write_and_sync-clause-fault g c honest = inl refl

pub returns-in-Err-write_and_sync-clause-unwritten : goal.returns-in-Err-write_and_sync-clause-unwritten
returns-in-Err-write_and_sync-clause-unwritten g c honest = inl refl

pub returns-in-Err-write_and_sync-clause-already : goal.returns-in-Err-write_and_sync-clause-already
returns-in-Err-write_and_sync-clause-already g c honest last =
    let there = c.write_and_sync.ensures.disk.was_honest honest in
    let before = c.in-Ok.ensures.syncs (c.read_layout.ensures.disk.was_honest there) in
    absurd (c.if-version-eq-LAST_VERSION.false (sym (version_read _ _ c.in-Ok-read_layout.found.1 before (c.in-Ok-read_layout.ensures.version there)) ∙ last))
