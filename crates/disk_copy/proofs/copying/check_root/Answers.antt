use Rattle.std.proofs.Common.{⊎_elim, arith, sym}
use Rattle.sector_disk.specs.Disk.{Image, seen}
use Rattle.generations.proofs.Laws.{one_live, live_no_fault}
use Rattle.disk_copy.specs.Faults.{IsOutside, IsRootFault}
use Rattle.disk_copy.specs.First.{first_image}
use Rattle.disk_copy.proofs.Served.{seen_first}
use Rattle.disk_copy.proofs.copying.check_root.Goals as goal

pub returns-in-Err-root_in-clause-same : goal.returns-in-Err-root_in-clause-same
returns-in-Err-root_in-clause-same g c honest live version =
    let first = c.in-Ok.first in
    let lives = seen_first (g.D.Sectors.sectors c.args.disk.now) first.count c.args.found.layout.sectors c.args.found.root first.format first.even first.odd
    (seen (g.D.Sectors.history c.args.disk.now)) c.in-Ok.ensures.count (c.in-Ok.ensures.gives honest) live in
    let image : Image = first_image first.format first.even first.odd in
    ⊎_elim
    (λ (outside : IsOutside c.in-Err-root_in.fault). outside)
    (λ (is : IsRootFault first.count image c.in-Err-root_in.fault).
    absurd (live_no_fault first.count image c.args.found.layout.sectors c.args.found.root is.0 lives is.2))
    c.in-Err-root_in.ensures.fault

pub returns-then-again-found-clause-same : goal.returns-then-again-found-clause-same
returns-then-again-found-clause-same g c honest live version =
    let first = c.in-Ok.first in
    let lives = seen_first (g.D.Sectors.sectors c.args.disk.now) first.count c.args.found.layout.sectors c.args.found.root first.format first.even first.odd
    (seen (g.D.Sectors.history c.args.disk.now)) c.in-Ok.ensures.count (c.in-Ok.ensures.gives honest) live in
    let same = one_live first.count (first_image first.format first.even first.odd) c.args.found.layout.sectors
    c.in-Ok-root_in.again.layout.sectors c.args.found.root c.in-Ok-root_in.again.root lives c.in-Ok-root_in.ensures.found.0 in
    absurd (omega (arith, c.if-again-found.true, same.0))

pub returns-then-not-is_same_root-clause-same : goal.returns-then-not-is_same_root-clause-same
returns-then-not-is_same_root-clause-same g c honest live version =
    let first = c.in-Ok.first in
    let lives = seen_first (g.D.Sectors.sectors c.args.disk.now) first.count c.args.found.layout.sectors c.args.found.root first.format first.even first.odd
    (seen (g.D.Sectors.history c.args.disk.now)) c.in-Ok.ensures.count (c.in-Ok.ensures.gives honest) live in
    let same = one_live first.count (first_image first.format first.even first.odd) c.args.found.layout.sectors
    c.in-Ok-root_in.again.layout.sectors c.args.found.root c.in-Ok-root_in.again.root lives c.in-Ok-root_in.ensures.found.0 in
    let is_same = c.is_same_root.ensures.1 (sym same.1) in
    let differs = c.if-not-is_same_root.true in
    absurd cc
