use Rattle.std.proofs.Common.{◌∙◌, ℕ, sym, subst}
use Rattle.sector_disk.specs.Disk.{History, seen}
use Rattle.disk_copy.specs.Copies.{IsJournalOf}
use Rattle.disk_copy.specs.Shared.{IsServed}
use Rattle.disk_copy.specs.Walks.{CopiesNamed, IsCopiedFrom}
use Rattle.disk_copy.proofs.Opened.{copied_from}
use Rattle.disk_copy.proofs.copying.copy_disk.Goals as goal

pub returns-clause-copied : goal.returns-clause-copied
returns-clause-copied g c honest into_honest empty =
    let found = c.in-Ok.found in
    let count = g.D.Sectors.sectors c.args.disk.now in
    let h = g.D.Sectors.history c.args.disk.now in
    let n = found.layout.sectors in
    let old = seen (g.E.Sectors.history c.args.into.now) in
    let before = g.E.Sectors.history c.copy_between.new.into in
    let checked = c.copy_between.ensures.disk.was_honest honest in
    let begun = c.check_records.ensures.disk.was_honest checked in
    let first = c.read_root.ensures.disk.same_history begun in
    let second = c.check_records.ensures.disk.same_history checked in
    let journal = c.in_ok-check_records.ensures.records checked in
    let named = c.in_ok-last.ensures.copied journal.0 honest (c.settle.ensures.into.was_honest into_honest)
    (subst (λ (x : History). IsJournalOf n found.version found.root journal.0 (seen x)) (sym second) journal.1) in
    copied_from count n found.version found.root (seen h) old c.in_ok-last.last before (g.E.Sectors.history c.settle.new.into)
    (record {
      lives = c.in-Ok.ensures.root begun;
      version_is = c.in-Ok.ensures.version begun;
      records = journal.0;
      journal = subst (λ (x : History). IsJournalOf n found.version found.root journal.0 (seen x)) first journal.1;
      copies = subst (λ (x : History). CopiesNamed n found.root journal.0 (seen x) old (seen before) c.in_ok-last.last) (second ∙ first) named;
    })
    empty (c.in_ok-settle.ensures.settled into_honest)

pub returns-clause-of_one_moment : goal.returns-clause-of_one_moment
returns-clause-of_one_moment g c n version shared into_honest empty served =
    let found = c.in-Ok.found in
    let count = g.D.Sectors.sectors c.args.disk.now in
    let images = g.D.SharedSectors.images in
    let old = seen (g.E.Sectors.history c.args.into.now) in
    let before = g.E.Sectors.history c.copy_between.new.into in
    let same = c.check_records.ensures.disk.same_count ∙ c.read_root.ensures.disk.same_count in
    let one = c.in_ok-last.ensures.shared n version shared (c.settle.ensures.into.was_honest into_honest)
    (subst (λ (k : ℕ). IsServed k n version images) (sym same) served) in (
      one.0,
      one.1,
      one.2,
      copied_from count found.layout.sectors found.version found.root (images one.0) old c.in_ok-last.last before (g.E.Sectors.history c.settle.new.into)
          (subst (λ (k : ℕ). IsCopiedFrom k found.layout.sectors found.version found.root (images one.0) old (seen before) c.in_ok-last.last) same one.3)
          empty (c.in_ok-settle.ensures.settled into_honest),
    )
