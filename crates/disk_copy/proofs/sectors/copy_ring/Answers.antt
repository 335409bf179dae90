use Rattle.std.proofs.Common.{◌≡◌, ◌<◌, ◌≤◌, ◌+◌, ◌%◌, ◌^◌, ◌∙◌, ℕ, List, refl, ap, arith}
use Rattle.std.proofs.lemmas.Nat.{mod_below}
use Rattle.std.proofs.lemmas.Result.{IfOk-from_err}
use Rattle.sector_disk.specs.Disk.{History, seen}
use Rattle.sector_disk.specs.Disk.History.{wrote}
use Rattle.sector_disk.proofs.AskedLaws.{reads_on, reads_none, reads_may, writes_on}
use Rattle.disk_copy.specs.Copies.{ring_from, IsUsed}
use Rattle.disk_copy.specs.Shared.{IsOf}
use Rattle.disk_copy.specs.Faults.{IsOutside}
use Rattle.disk_copy.proofs.Exits.{exit_is, exit_tells}
use Rattle.disk_copy.proofs.Steps.{used_none, used_more, copies_as, of_longer, goes_on, goes_none}
use Rattle.disk_copy.proofs.sectors.copy_ring.Given.{Over}
use Rattle.disk_copy.proofs.sectors.copy_ring.Goals as goal

pub returns-in_err-copy_sector-clause-disk : goal.returns-in_err-copy_sector-clause-disk
returns-in_err-copy_sector-clause-disk g c = reads_on c.loop-done.invariant.disk c.in_err-copy_sector.ensures.disk

pub returns-in_err-copy_sector-clause-into : goal.returns-in_err-copy_sector-clause-into
returns-in_err-copy_sector-clause-into g c = writes_on c.loop-done.invariant.into c.in_err-copy_sector.ensures.into

pub returns-in_err-copy_sector-clause-failed : goal.returns-in_err-copy_sector-clause-failed
returns-in_err-copy_sector-clause-failed g c =
    exit_tells c.from_residual.result c.in_err-copy_sector.field-0.0 c.from_residual.ensures.1 _ _
    c.loop-done.invariant.faults c.loop-done.invariant.other_faults c.in_err-copy_sector.ensures.failed

pub returns-in_err-copy_sector-clause-outside : goal.returns-in_err-copy_sector-clause-outside
returns-in_err-copy_sector-clause-outside g c =
    exit_is c.from_residual.result c.in_err-copy_sector.field-0.0 c.from_residual.ensures.1
    IsOutside c.in_err-copy_sector.ensures.outside

pub returns-in_err-copy_sector-clause-copied : goal.returns-in_err-copy_sector-clause-copied
returns-in_err-copy_sector-clause-copied g c honest into_honest = IfOk-from_err _ _ c.from_residual.ensures.0

pub returns-clause-disk : goal.returns-clause-disk
returns-clause-disk g c = c.loop-done.invariant.disk

pub returns-clause-into : goal.returns-clause-into
returns-clause-into g c = c.loop-done.invariant.into

pub returns-clause-failed : goal.returns-clause-failed
returns-clause-failed g c = (c.loop-done.invariant.faults, c.loop-done.invariant.other_faults)

-- the sectors that were copied are those of moments until now
abbrev is_of : (g : Over) (from to : ℕ) → ℕ → List ℕ → Type 0
is_of g from to = IsOf g.D.SharedSectors.images from to

pub loop-done-init : goal.loop-done-init
loop-done-init g c = record {
  within = omega arith;
  disk = reads_none _;
  into = reads_may (reads_none {history = g.E.Sectors.history} _);
  faults = refl;
  other_faults = refl;
  copied = λ honest into_honest. used_none (λ at bytes. bytes ≡ seen (g.D.Sectors.history c.args.disk.now) at) (ring_from c.args.first c.args.places)
      c.args.place (seen (g.E.Sectors.history c.args.into.now));
  later = goes_none _;
  shared = λ shared into_honest. used_none (is_of g (g.D.SharedSectors.now c.args.disk.now) (g.D.SharedSectors.now c.args.disk.now))
      (ring_from c.args.first c.args.places) c.args.place (seen (g.E.Sectors.history c.args.into.now));
}

pub loop-done-preserved : goal.loop-done-preserved
loop-done-preserved g c =
    let inv = c.loop-done.invariant in
    let ok = c.in_ok-copy_sector.ensures in
    let done = c.loop-done.done in
    let ring = ring_from c.args.first c.args.places in
    let at = c.args.first + (c.args.place + done) % c.args.places in
    let history = g.D.Sectors.history c.args.disk.now in
    let before = g.E.Sectors.history c.loop-done.into in
    let begun = g.D.SharedSectors.now c.args.disk.now in
    let until = g.D.SharedSectors.now c.loop-done.disk in
    let now = g.D.SharedSectors.now c.copy_sector.new.disk in
    let old = seen (g.E.Sectors.history c.args.into.now) in
    record {
      within = omega (arith, c.loop-done-test.true);
      disk = reads_on inv.disk ok.disk;
      into = writes_on inv.into ok.into;
      faults = ok.failed.0 ∙ inv.faults;
      other_faults = ok.failed.1 ∙ inv.other_faults;
      copied = λ honest into_honest.
          let read = ok.disk.was_honest honest in
          used_more (λ x bytes. bytes ≡ seen history x) ring c.args.place done (seen history at) old before (g.E.Sectors.history c.copy_sector.new.into) refl
          (ok.copied honest into_honest ∙ ap (λ (h : History). wrote at (seen h at) before) (inv.disk.same_history read))
          (inv.copied read (ok.into.was_honest into_honest));
      later = goes_on inv.later ok.later;
      shared = λ shared into_honest.
          let read = ok.shared shared into_honest in
          used_more (is_of g begun now) ring c.args.place done read.0 old before (g.E.Sectors.history c.copy_sector.new.into)
          (of_longer g.D.SharedSectors.images until now begun now at read.0 inv.later.later (omega arith) read.1) read.2
          (copies_as (is_of g begun until) (is_of g begun now) (IsUsed ring c.args.place done) old (seen before)
          (λ x bytes there. of_longer g.D.SharedSectors.images begun until begun now x bytes (omega arith) ok.later.later)
          (inv.shared (ok.later.was_shared shared) (ok.into.was_honest into_honest)));
    }

-- a place is one of the ring's
place_below : (first places k used count : ℕ) → k < used → used ≤ places → first + places ≤ count → (at : ℕ) → first + at % places < count
place_below first places k used count lt few ends at = omega (arith, lt, few, ends, mod_below at places (omega (arith, lt, few)))

pub overflow_add-at : goal.overflow_add-at
overflow_add-at g c = omega (arith, c.requires.place, c.loop-done.invariant.within)

pub overflow_add-at-in-loop-done : goal.overflow_add-at-in-loop-done
overflow_add-at-in-loop-done g c =
    let below : c.args.first + (c.args.place + c.loop-done.done) % c.args.places < 2 ^ 64 =
    place_below c.args.first c.args.places c.loop-done.done c.args.used (2 ^ 64) c.loop-done-test.true c.requires.used (omega (arith, c.requires.ends))
    (c.args.place + c.loop-done.done) in
    omega (arith, below)

pub nonzero_rem-at : goal.nonzero_rem-at
nonzero_rem-at g c = omega (arith, c.loop-done-test.true, c.requires.used)

pub copy_sector-requires-clause-on_disk : goal.copy_sector-requires-clause-on_disk
copy_sector-requires-clause-on_disk g c =
    place_below c.args.first c.args.places c.loop-done.done c.args.used (g.D.Sectors.sectors c.loop-done.disk) c.loop-done-test.true c.requires.used
    (rw c.loop-done.invariant.disk.same_count c.requires.on_disk) (c.args.place + c.loop-done.done)

pub copy_sector-requires-clause-fits : goal.copy_sector-requires-clause-fits
copy_sector-requires-clause-fits g c =
    place_below c.args.first c.args.places c.loop-done.done c.args.used (g.E.Sectors.sectors c.loop-done.into) c.loop-done-test.true c.requires.used
    (rw c.loop-done.invariant.into.same_count c.requires.fits) (c.args.place + c.loop-done.done)

pub returns-in_err-copy_sector-clause-later : goal.returns-in_err-copy_sector-clause-later
returns-in_err-copy_sector-clause-later g c = goes_on c.loop-done.invariant.later c.in_err-copy_sector.ensures.later

pub returns-in_err-copy_sector-clause-shared : goal.returns-in_err-copy_sector-clause-shared
returns-in_err-copy_sector-clause-shared g c shared into_honest = IfOk-from_err _ _ c.from_residual.ensures.0

pub returns-clause-later : goal.returns-clause-later
returns-clause-later g c = c.loop-done.invariant.later
