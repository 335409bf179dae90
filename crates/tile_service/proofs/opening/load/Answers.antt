use Rattle.std.proofs.Common.{◌∙◌, inl, inr, ℕ, refl, arith, subst}
use Rattle.sector_disk.specs.Disk.{seen}
use Rattle.tile_service.proofs.Disk.Opened.{synced_and_read, live_before, version_before, read_after, fault_after, root_fault_after}
use Rattle.tile_service.proofs.Disk.Opened.{device_no_memory, root_no_memory}
use Rattle.tile_service.proofs.Runs.DeviceFaults.{counted_failed}
use Rattle.sector_disk.proofs.AskedLaws.{writes_on, reads_on, reads_may}
use Rattle.generations.specs.Faults.{CountsDevice}
use Rattle.tile_service.proofs.opening.load.Goals as goal

pub returns-in-Ok-read_map-clause-found : goal.returns-in-Ok-read_map-clause-found
returns-in-Ok-read_map-clause-found g c honest =
    let root_honest = c.read_map.ensures.disk.was_honest honest in
    let sync_is = c.in-Ok.ensures.syncs (c.read_root.ensures.disk.was_honest root_honest) in
    let before = live_before (g.D.Sectors.sectors c.args.disk.now) (g.D.Sectors.sectors c.sync.new.self) c.in-Ok-read_root.found.layout.sectors
    (g.D.Sectors.history c.args.disk.now) (g.D.Sectors.history c.sync.new.self) c.in-Ok-read_root.found.root c.in-Ok.ensures.disk.same_count
    sync_is (c.in-Ok-read_root.ensures.root root_honest) in
    let version_is = version_before c.in-Ok-read_root.found.version (g.D.Sectors.history c.args.disk.now) (g.D.Sectors.history c.sync.new.self)
    sync_is (c.in-Ok-read_root.ensures.version root_honest) in
    read_after _ _ _ (g.D.Sectors.history c.args.disk.now) (g.D.Sectors.history c.read_root.new.disk) _ _ _ _
    (c.in-Ok-read_root.ensures.disk.same_history root_honest ∙ sync_is) before version_is (c.in-Ok-read_map.ensures.found honest)

pub returns-in-Err-read_map-clause-fault : goal.returns-in-Err-read_map-clause-fault
returns-in-Err-read_map-clause-fault g c honest =
    let root_honest = c.read_map.ensures.disk.was_honest honest in
    let sync_is = c.in-Ok.ensures.syncs (c.read_root.ensures.disk.was_honest root_honest) in
    let before = live_before (g.D.Sectors.sectors c.args.disk.now) (g.D.Sectors.sectors c.sync.new.self) c.in-Ok-read_root.found.layout.sectors
    (g.D.Sectors.history c.args.disk.now) (g.D.Sectors.history c.sync.new.self) c.in-Ok-read_root.found.root c.in-Ok.ensures.disk.same_count
    sync_is (c.in-Ok-read_root.ensures.root root_honest) in
    let version_is = version_before c.in-Ok-read_root.found.version (g.D.Sectors.history c.args.disk.now) (g.D.Sectors.history c.sync.new.self)
    sync_is (c.in-Ok-read_root.ensures.version root_honest) in
    fault_after _ _ _ (g.D.Sectors.history c.args.disk.now) (g.D.Sectors.history c.read_root.new.disk) _ _
    (c.in-Ok-read_root.ensures.disk.same_history root_honest ∙ sync_is) before version_is (c.in-Err-read_map.ensures.fault honest)

pub returns-in-Err-read_root-clause-fault : goal.returns-in-Err-read_root-clause-fault
returns-in-Err-read_root-clause-fault g c honest = root_fault_after (g.D.Sectors.sectors c.args.disk.now) (g.D.Sectors.sectors c.sync.new.self)
    (g.D.Sectors.history c.args.disk.now) (g.D.Sectors.history c.sync.new.self) c.in-Err-read_root.fault c.in-Ok.ensures.disk.same_count
    (c.in-Ok.ensures.syncs (c.read_root.ensures.disk.was_honest honest)) (c.in-Err-read_root.ensures.fault honest)

pub returns-in-Err-clause-memory : goal.returns-in-Err-clause-memory
returns-in-Err-clause-memory g c honest is = absurd (device_no_memory is)

pub returns-in-Err-read_root-clause-memory : goal.returns-in-Err-read_root-clause-memory
returns-in-Err-read_root-clause-memory g c honest is =
    absurd (root_no_memory (g.D.Sectors.sectors c.sync.new.self) (seen (g.D.Sectors.history c.sync.new.self)) c.in-Err-read_root.fault
    (c.in-Err-read_root.ensures.fault honest) is)

pub returns-in-Err-read_map-clause-memory : goal.returns-in-Err-read_map-clause-memory
returns-in-Err-read_map-clause-memory g c honest is =
    let root_honest = c.read_map.ensures.disk.was_honest honest in
    let sync_is = c.in-Ok.ensures.syncs (c.read_root.ensures.disk.was_honest root_honest) in (
      c.in-Ok-read_root.found.layout.sectors,
      c.in-Ok-read_root.found.root,
      live_before (g.D.Sectors.sectors c.args.disk.now) (g.D.Sectors.sectors c.sync.new.self) c.in-Ok-read_root.found.layout.sectors
          (g.D.Sectors.history c.args.disk.now) (g.D.Sectors.history c.sync.new.self) c.in-Ok-read_root.found.root c.in-Ok.ensures.disk.same_count
          sync_is (c.in-Ok-read_root.ensures.root root_honest),
    )

pub returns-in-Err-clause-disk : goal.returns-in-Err-clause-disk
returns-in-Err-clause-disk g c = c.sync.ensures.disk

pub returns-in-Err-clause-written : goal.returns-in-Err-clause-written
returns-in-Err-clause-written g c = c.in-Err.ensures.syncs

pub returns-in-Err-clause-fault : goal.returns-in-Err-clause-fault
returns-in-Err-clause-fault g c = λ honest. inl refl

pub returns-in-Err-read_root-clause-disk : goal.returns-in-Err-read_root-clause-disk
returns-in-Err-read_root-clause-disk g c = writes_on c.sync.ensures.disk (reads_may c.read_root.ensures.disk)

pub returns-in-Err-read_root-clause-written : goal.returns-in-Err-read_root-clause-written
returns-in-Err-read_root-clause-written g c = λ honest. inr (synced_and_read c.in-Ok.ensures.syncs c.read_root.ensures.disk honest)

pub returns-in-Err-read_root-clause-failed : goal.returns-in-Err-read_root-clause-failed
returns-in-Err-read_root-clause-failed g c = subst (λ (count : ℕ). CountsDevice c.in-Err-read_root.fault count (g.D.Sectors.faults c.read_root.new.disk))
    c.in-Ok.ensures.faults c.in-Err-read_root.ensures.failed

pub read_map-requires-clause-within : goal.read_map-requires-clause-within
read_map-requires-clause-within g c = c.in-Ok-read_root.ensures.within

pub read_map-requires-clause-version : goal.read_map-requires-clause-version
read_map-requires-clause-version g c = c.in-Ok-read_root.ensures.known

pub read_map-requires-clause-can : goal.read_map-requires-clause-can
read_map-requires-clause-can g c = c.in-Ok-read_root.ensures.can

pub returns-in-Ok-read_map-clause-disk : goal.returns-in-Ok-read_map-clause-disk
returns-in-Ok-read_map-clause-disk g c = writes_on c.sync.ensures.disk (reads_may (reads_on c.read_root.ensures.disk c.read_map.ensures.disk))

pub returns-in-Ok-read_map-clause-synced : goal.returns-in-Ok-read_map-clause-synced
returns-in-Ok-read_map-clause-synced g c = synced_and_read c.in-Ok.ensures.syncs (reads_on c.read_root.ensures.disk c.read_map.ensures.disk)

pub returns-in-Ok-read_map-clause-written : goal.returns-in-Ok-read_map-clause-written
returns-in-Ok-read_map-clause-written g c = λ honest. inr (synced_and_read c.in-Ok.ensures.syncs
    (reads_on c.read_root.ensures.disk c.read_map.ensures.disk) honest)

pub returns-in-Ok-read_map-clause-failed : goal.returns-in-Ok-read_map-clause-failed
returns-in-Ok-read_map-clause-failed g c = c.in-Ok-read_map.ensures.failed ∙ c.in-Ok-read_root.ensures.failed ∙ c.in-Ok.ensures.faults

pub returns-in-Ok-read_map-clause-within : goal.returns-in-Ok-read_map-clause-within
returns-in-Ok-read_map-clause-within g c = omega (arith, c.in-Ok-read_root.ensures.within, c.read_map.ensures.disk.same_count)

pub returns-in-Ok-read_map-clause-version : goal.returns-in-Ok-read_map-clause-version
returns-in-Ok-read_map-clause-version g c = c.in-Ok-read_root.ensures.known

pub returns-in-Ok-read_map-clause-can : goal.returns-in-Ok-read_map-clause-can
returns-in-Ok-read_map-clause-can g c = c.in-Ok-read_root.ensures.can

pub returns-in-Ok-read_map-clause-ring : goal.returns-in-Ok-read_map-clause-ring
returns-in-Ok-read_map-clause-ring g c = c.in-Ok-read_map.ensures.ring

pub returns-in-Ok-read_map-clause-texts : goal.returns-in-Ok-read_map-clause-texts
returns-in-Ok-read_map-clause-texts g c = c.in-Ok-read_map.ensures.texts

pub returns-in-Ok-read_map-clause-counted : goal.returns-in-Ok-read_map-clause-counted
returns-in-Ok-read_map-clause-counted g c = c.in-Ok-read_map.ensures.counted

pub returns-in-Ok-read_map-clause-last : goal.returns-in-Ok-read_map-clause-last
returns-in-Ok-read_map-clause-last g c = c.in-Ok-read_map.ensures.last

pub returns-in-Ok-read_map-clause-reads : goal.returns-in-Ok-read_map-clause-reads
returns-in-Ok-read_map-clause-reads g c = c.in-Ok-read_map.ensures.reads

pub returns-in-Ok-read_map-clause-published : goal.returns-in-Ok-read_map-clause-published
returns-in-Ok-read_map-clause-published g c = c.new-published.ensures

pub returns-in-Err-read_map-clause-disk : goal.returns-in-Err-read_map-clause-disk
returns-in-Err-read_map-clause-disk g c = writes_on c.sync.ensures.disk (reads_may (reads_on c.read_root.ensures.disk c.read_map.ensures.disk))

pub returns-in-Err-read_map-clause-written : goal.returns-in-Err-read_map-clause-written
returns-in-Err-read_map-clause-written g c = λ honest. inr (synced_and_read c.in-Ok.ensures.syncs
    (reads_on c.read_root.ensures.disk c.read_map.ensures.disk) honest)

pub returns-in-Err-read_map-clause-failed : goal.returns-in-Err-read_map-clause-failed
returns-in-Err-read_map-clause-failed g c = subst (λ (count : ℕ). CountsDevice c.in-Err-read_map.fault count (g.D.Sectors.faults c.read_map.new.disk))
    (c.in-Ok-read_root.ensures.failed ∙ c.in-Ok.ensures.faults) c.in-Err-read_map.ensures.failed

pub returns-in-Err-clause-failed : goal.returns-in-Err-clause-failed
returns-in-Err-clause-failed g c = counted_failed _ _ c.in-Err.ensures.faults
