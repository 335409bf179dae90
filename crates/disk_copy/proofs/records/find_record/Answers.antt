use Rattle.std.proofs.Common.{◌≡◌, ◌⊎◌, ◌+◌, ◌-◌, ◌%◌, ◌^◌, ◌∙◌, inl, inr, ℕ, ap, arith}
use Rattle.sector_disk.specs.Disk.{Image, seen}
use Rattle.edit_journal.specs.Ring.{sector_at}
use Rattle.generations.specs.declared.sizes.TheConstants.{JOURNAL_START}
use Rattle.disk_copy.specs.Copies.{ring_in}
use Rattle.disk_copy.proofs.Walking.{spent, finds}
use Rattle.disk_copy.proofs.records.find_record.Given.{Over}
use Rattle.disk_copy.proofs.records.find_record.Goals as goal
use Rattle.disk_copy.proofs.records.find_record.Goals.{then-used-found-via-then-used-found}
use Rattle.disk_copy.proofs.records.find_record.Goals.{then-used-found-via-else-used-found+then-last-eq18446744073709551615}

-- no place is left, or no number
none_left : (g : Over) (c : goal.Joined-then-used-found g) → (c.args.used ≡ (ring_in c.args.found.layout.sectors).places) ⊎ (c.args.last + 1 ≡ 2 ^ 64)
none_left g c = elim c.then-used-found.branch [
  | then-used-found-via-then-used-found w ↦ inl (omega (arith, w.if-used-found.true, c.args.found.layout.journal_is))
  | then-used-found-via-else-used-found+then-last-eq18446744073709551615 w ↦ inr (omega (arith, w.if-last-eq18446744073709551615.true))
]

pub returns-then-used-found-clause-found : goal.returns-then-used-found-clause-found
returns-then-used-found-clause-found g c records honest journal walked =
    spent c.args.found.layout.sectors c.args.found.version c.args.found.root records (seen (g.D.Sectors.history c.args.disk.now))
    c.args.used c.args.last journal walked (none_left g c)

pub returns-then-used-found-clause-shared : goal.returns-then-used-found-clause-shared
returns-then-used-found-clause-shared g c shared = (
  g.D.SharedSectors.now c.args.disk.now,
  omega arith,
  omega arith,
  λ records journal walked. spent c.args.found.layout.sectors c.args.found.version c.args.found.root records
      (g.D.SharedSectors.images (g.D.SharedSectors.now c.args.disk.now)) c.args.used c.args.last journal walked (none_left g c),
)

-- the place of the ring
here : (g : Over) (c : goal.After-parts_in g) → (image : Image)
    → c.in-Ok.sector ≡ image (JOURNAL_START + (c.args.found.root.journal_at + c.args.used) % c.args.found.layout.journal)
    → c.in-Ok.sector ≡ image (sector_at (ring_in c.args.found.layout.sectors) (c.args.found.root.journal_at + c.args.used))
here g c image is =
    is ∙ ap (λ (m : ℕ). image (JOURNAL_START + (c.args.found.root.journal_at + c.args.used) % m)) c.args.found.layout.journal_is

pub returns-in-Ok-clause-found : goal.returns-in-Ok-clause-found
returns-in-Ok-clause-found g c records honest journal walked =
    let image = seen (g.D.Sectors.history c.args.disk.now) in
    let layout = c.args.found.layout in
    finds layout.sectors c.args.found.version c.args.found.root records image c.args.used c.args.last journal walked
    (layout.journal - c.args.used) (omega (arith, c.requires.used, layout.journal_is)) (omega (arith, c.if-used-found.false, c.requires.used))
    (omega (arith, c.if-last-eq18446744073709551615.false)) c.in-Ok.sector (here g c image (c.in-Ok.ensures.gives honest))
    c.parts_in.result c.parts_in.ensures

pub returns-in-Ok-clause-shared : goal.returns-in-Ok-clause-shared
returns-in-Ok-clause-shared g c shared =
    let read = c.in-Ok.ensures.shows shared in
    let image = g.D.SharedSectors.images read.0 in
    let layout = c.args.found.layout in (
      read.0,
      read.1,
      read.2,
      λ records journal walked. finds layout.sectors c.args.found.version c.args.found.root records image c.args.used c.args.last journal walked
          (layout.journal - c.args.used) (omega (arith, c.requires.used, layout.journal_is)) (omega (arith, c.if-used-found.false, c.requires.used))
          (omega (arith, c.if-last-eq18446744073709551615.false)) c.in-Ok.sector (here g c image read.3)
          c.parts_in.result c.parts_in.ensures,
    )
