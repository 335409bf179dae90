use Rattle.std.proofs.Common.{◌≤◌, sym, subst, arith}
use Rattle.sector_disk.specs.Disk.{History, seen}
use Rattle.disk_copy.specs.Copies.{IsJournalOf}
use Rattle.disk_copy.specs.Walks.{CopiesAll}
use Rattle.disk_copy.proofs.Steps.{if_ok}
use Rattle.disk_copy.proofs.Stretch.{stretch_later, front_and_all, copies_named}
use Rattle.disk_copy.proofs.copying.copy_named.Goals as goal

pub returns-in-Ok-clause-copied : goal.returns-in-Ok-clause-copied
returns-in-Ok-clause-copied g c records honest into_honest journal =
    let n = c.args.found.layout.sectors in
    let version = c.args.found.version in
    let root = c.args.found.root in
    let h = g.D.Sectors.history c.args.disk.now in
    let old = seen (g.E.Sectors.history c.args.into.now) in
    let middle = seen (g.E.Sectors.history c.copy_front.new.into) in
    let new = seen (g.E.Sectors.history c.copy_records.new.into) in
    let read = c.copy_records.ensures.disk.was_honest honest in
    let same = c.copy_front.ensures.disk.same_history read in
    let front = c.in-Ok.ensures.copied read (c.copy_records.ensures.into.was_honest into_honest) in
    if_ok (λ last all. front_and_all n root records (seen h) old middle new last front
    (subst (λ (x : History). CopiesAll n root records (seen x) middle new last) same all))
    c.copy_records.result
    (c.copy_records.ensures.copied records honest into_honest (subst (λ (x : History). IsJournalOf n version root records (seen x)) (sym same) journal))

pub returns-in-Ok-clause-shared : goal.returns-in-Ok-clause-shared
returns-in-Ok-clause-shared g c records to shared into_honest until stretch =
    let n = c.args.found.layout.sectors in
    let version = c.args.found.version in
    let root = c.args.found.root in
    let images = g.D.SharedSectors.images in
    let from = g.D.SharedSectors.now c.args.disk.now in
    let read = g.D.SharedSectors.now c.copy_front.new.disk in
    let old = seen (g.E.Sectors.history c.args.into.now) in
    let middle = seen (g.E.Sectors.history c.copy_front.new.into) in
    let new = seen (g.E.Sectors.history c.copy_records.new.into) in
    let since : from ≤ read = c.in-Ok.ensures.later.later in
    let front = c.in-Ok.ensures.shared (c.copy_records.ensures.later.was_shared shared) (c.copy_records.ensures.into.was_honest into_honest) in
    if_ok (λ last all. (
      all.0,
      omega (arith, since, all.1),
      all.2,
      copies_named n version root records images from to stretch read all.0 since all.1 (omega (arith, all.2, until)) last old middle new front all.3,
    ))
    c.copy_records.result
    (c.copy_records.ensures.shared records to shared into_honest until (stretch_later n version root records images from read to since stretch))
