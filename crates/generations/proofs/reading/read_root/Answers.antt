use Rattle.std.proofs.Common.{◌≡◌, ◌∙◌, inl, inr, Err, subst, arith}
use Rattle.sector_disk.specs.Disk.{History, seen}
use Rattle.sector_disk.proofs.AskedLaws.{reads_on}
use Rattle.generations.specs.Sectors.{IsSlot, IsBad}
use Rattle.generations.proofs.Exits.{passed_on, slot_fault}
use Rattle.generations.proofs.Live.{newest_lives}
use Rattle.generations.proofs.reading.read_root.Given.{Over}
use Rattle.generations.proofs.reading.read_root.Goals as goal

pub returns-in-Some-clause-root : goal.returns-in-Some-clause-root
returns-in-Some-clause-root g c honest =
    let second = c.read_slot-2.ensures.disk.was_honest honest in
    let first = c.read_slot.ensures.disk.was_honest second in
    let n = c.in_ok-layout.layout.sectors in
    let was = c.read_layout.ensures.disk.same_history first in
    let is = c.read_slot.ensures.disk.same_history second ∙ was in
    newest_lives _ (seen (g.D.Sectors.history c.args.disk.now)) n (c.in_ok-layout.ensures.format first)
    c.in_ok-even.even c.in_ok-odd.odd
    (subst (λ (h : History). IsSlot n 0 (seen h 1) c.in_ok-even.even) was (c.in_ok-even.ensures.slot second))
    (subst (λ (h : History). IsSlot n 1 (seen h 2) c.in_ok-odd.odd) is (c.in_ok-odd.ensures.slot honest))
    c.in-Some.root c.in-Some.ensures

pub returns-in_err-layout-clause-disk : goal.returns-in_err-layout-clause-disk
returns-in_err-layout-clause-disk g c = c.in_err-layout.ensures.disk

-- the fault of the layout is returned
no_layout : (g : Over) (c : goal.After-from_residual g) → c.from_residual.result ≡ Err c.in_err-layout.field-0.0
no_layout g c = passed_on c.from_residual.result c.in_err-layout.field-0.0 c.from_residual.ensures.1

pub returns-in_err-layout-clause-failed : goal.returns-in_err-layout-clause-failed
returns-in_err-layout-clause-failed g c = rw (no_layout g c) c.in_err-layout.ensures.failed

pub returns-in_err-layout-clause-within : goal.returns-in_err-layout-clause-within
returns-in_err-layout-clause-within g c = rw (no_layout g c) tt

pub returns-in_err-layout-clause-can : goal.returns-in_err-layout-clause-can
returns-in_err-layout-clause-can g c = rw (no_layout g c) tt

pub returns-in_err-layout-clause-known : goal.returns-in_err-layout-clause-known
returns-in_err-layout-clause-known g c = rw (no_layout g c) tt

pub returns-in_err-layout-clause-version : goal.returns-in_err-layout-clause-version
returns-in_err-layout-clause-version g c honest = rw (no_layout g c) tt

pub returns-in_err-layout-clause-root : goal.returns-in_err-layout-clause-root
returns-in_err-layout-clause-root g c honest = rw (no_layout g c) tt

pub returns-in_err-layout-clause-fault : goal.returns-in_err-layout-clause-fault
returns-in_err-layout-clause-fault g c honest = rw (no_layout g c) (c.in_err-layout.ensures.fault honest)

pub read_slot-requires-clause-within : goal.read_slot-requires-clause-within
read_slot-requires-clause-within g c = omega (arith, c.in_ok-layout.ensures.within, c.in_ok-layout.ensures.disk.same_count)

pub returns-in_err-even-clause-disk : goal.returns-in_err-even-clause-disk
returns-in_err-even-clause-disk g c = reads_on c.in_ok-layout.ensures.disk c.in_err-even.ensures.disk

-- the fault of the first root's sector is returned
no_even : (g : Over) (c : goal.After-from_residual-in_err-even g) → c.from_residual-in_err-even.result ≡ Err c.in_err-even.field-0.0
no_even g c = passed_on c.from_residual-in_err-even.result c.in_err-even.field-0.0 c.from_residual-in_err-even.ensures.1

pub returns-in_err-even-clause-failed : goal.returns-in_err-even-clause-failed
returns-in_err-even-clause-failed g c = rw (no_even g c, ← c.in_ok-layout.ensures.failed) c.in_err-even.ensures.failed

pub returns-in_err-even-clause-within : goal.returns-in_err-even-clause-within
returns-in_err-even-clause-within g c = rw (no_even g c) tt

pub returns-in_err-even-clause-can : goal.returns-in_err-even-clause-can
returns-in_err-even-clause-can g c = rw (no_even g c) tt

pub returns-in_err-even-clause-known : goal.returns-in_err-even-clause-known
returns-in_err-even-clause-known g c = rw (no_even g c) tt

pub returns-in_err-even-clause-version : goal.returns-in_err-even-clause-version
returns-in_err-even-clause-version g c honest = rw (no_even g c) tt

pub returns-in_err-even-clause-root : goal.returns-in_err-even-clause-root
returns-in_err-even-clause-root g c honest = rw (no_even g c) tt

pub returns-in_err-even-clause-fault : goal.returns-in_err-even-clause-fault
returns-in_err-even-clause-fault g c honest =
    let first = c.in_err-even.ensures.disk.was_honest honest in
    let n = c.in_ok-layout.layout.sectors in
    let was = c.in_ok-layout.ensures.disk.same_history first in
    rw (no_even g c) (slot_fault _ (seen (g.D.Sectors.history c.args.disk.now)) n c.in_err-even.field-0.0 (c.in_ok-layout.ensures.format first)
    (λ bad. inl (subst (λ (h : History). IsBad n 0 (seen h 1)) was bad)) c.in_err-even.ensures.fault (c.in_err-even.ensures.bad honest))

pub read_slot-requires-2-clause-within : goal.read_slot-requires-2-clause-within
read_slot-requires-2-clause-within g c =
    omega (arith, c.in_ok-layout.ensures.within, c.in_ok-layout.ensures.disk.same_count, c.in_ok-even.ensures.disk.same_count)

pub returns-in_err-odd-clause-disk : goal.returns-in_err-odd-clause-disk
returns-in_err-odd-clause-disk g c = reads_on (reads_on c.in_ok-layout.ensures.disk c.in_ok-even.ensures.disk) c.in_err-odd.ensures.disk

-- the fault of the second root's sector is returned
no_odd : (g : Over) (c : goal.After-from_residual-in_err-odd g) → c.from_residual-in_err-odd.result ≡ Err c.in_err-odd.field-0.0
no_odd g c = passed_on c.from_residual-in_err-odd.result c.in_err-odd.field-0.0 c.from_residual-in_err-odd.ensures.1

pub returns-in_err-odd-clause-failed : goal.returns-in_err-odd-clause-failed
returns-in_err-odd-clause-failed g c = rw (no_odd g c, ← c.in_ok-layout.ensures.failed, ← c.in_ok-even.ensures.failed) c.in_err-odd.ensures.failed

pub returns-in_err-odd-clause-within : goal.returns-in_err-odd-clause-within
returns-in_err-odd-clause-within g c = rw (no_odd g c) tt

pub returns-in_err-odd-clause-can : goal.returns-in_err-odd-clause-can
returns-in_err-odd-clause-can g c = rw (no_odd g c) tt

pub returns-in_err-odd-clause-known : goal.returns-in_err-odd-clause-known
returns-in_err-odd-clause-known g c = rw (no_odd g c) tt

pub returns-in_err-odd-clause-version : goal.returns-in_err-odd-clause-version
returns-in_err-odd-clause-version g c honest = rw (no_odd g c) tt

pub returns-in_err-odd-clause-root : goal.returns-in_err-odd-clause-root
returns-in_err-odd-clause-root g c honest = rw (no_odd g c) tt

pub returns-in_err-odd-clause-fault : goal.returns-in_err-odd-clause-fault
returns-in_err-odd-clause-fault g c honest =
    let second = c.in_err-odd.ensures.disk.was_honest honest in
    let first = c.in_ok-even.ensures.disk.was_honest second in
    let n = c.in_ok-layout.layout.sectors in
    let is = c.in_ok-even.ensures.disk.same_history second ∙ c.in_ok-layout.ensures.disk.same_history first in
    rw (no_odd g c) (slot_fault _ (seen (g.D.Sectors.history c.args.disk.now)) n c.in_err-odd.field-0.0 (c.in_ok-layout.ensures.format first)
    (λ bad. inr (inl (subst (λ (h : History). IsBad n 1 (seen h 2)) is bad))) c.in_err-odd.ensures.fault (c.in_err-odd.ensures.bad honest))

pub returns-in-Some-clause-disk : goal.returns-in-Some-clause-disk
returns-in-Some-clause-disk g c = reads_on (reads_on c.in_ok-layout.ensures.disk c.in_ok-even.ensures.disk) c.in_ok-odd.ensures.disk

pub returns-in-Some-clause-failed : goal.returns-in-Some-clause-failed
returns-in-Some-clause-failed g c = c.in_ok-odd.ensures.failed ∙ c.in_ok-even.ensures.failed ∙ c.in_ok-layout.ensures.failed

pub returns-in-None-clause-disk : goal.returns-in-None-clause-disk
returns-in-None-clause-disk g c = reads_on (reads_on c.in_ok-layout.ensures.disk c.in_ok-even.ensures.disk) c.in_ok-odd.ensures.disk

pub returns-in-None-clause-failed : goal.returns-in-None-clause-failed
returns-in-None-clause-failed g c = c.in_ok-odd.ensures.failed ∙ c.in_ok-even.ensures.failed ∙ c.in_ok-layout.ensures.failed

pub returns-in-Some-clause-within : goal.returns-in-Some-clause-within
returns-in-Some-clause-within g c =
    omega (
      arith,
      c.in_ok-layout.ensures.within,
      c.in_ok-layout.ensures.disk.same_count,
      c.in_ok-even.ensures.disk.same_count,
      c.in_ok-odd.ensures.disk.same_count,
    )

pub returns-in-Some-clause-known : goal.returns-in-Some-clause-known
returns-in-Some-clause-known g c = c.in_ok-layout.ensures.known

pub returns-in-Some-clause-version : goal.returns-in-Some-clause-version
returns-in-Some-clause-version g c honest = c.in_ok-layout.ensures.version (c.in_ok-even.ensures.disk.was_honest (c.in_ok-odd.ensures.disk.was_honest honest))
