use Rattle.std.proofs.Common.{◌∙◌, ℕ, subst, arith}
use Rattle.disk_copy.specs.Shared.{HasLooked}
use Rattle.disk_copy.proofs.Served.{served_as_found, stretch, lives_then, journal_then}
use Rattle.disk_copy.proofs.copying.copy_between.Goals as goal

pub returns-in-Ok-check_root-clause-shared : goal.returns-in-Ok-check_root-clause-shared
returns-in-Ok-check_root-clause-shared g c n version shared into_honest served =
    let found = c.args.found in
    let count = g.D.Sectors.sectors c.args.disk.now in
    let images = g.D.SharedSectors.images in
    let from = g.D.SharedSectors.now c.args.disk.now in
    let begun = g.D.SharedSectors.now c.check_root.new.disk in
    let ended = g.D.SharedSectors.now c.copy_named.new.disk in
    let now = g.D.SharedSectors.now c.check_root-2.new.disk in
    let copied = c.check_root-2.ensures.later.was_shared shared in
    let looked = c.in-Ok.ensures.looked (c.copy_named.ensures.later.was_shared copied) in
    let again = subst (λ (k : ℕ). HasLooked k found.layout.sectors found.version found.root images ended now)
    (c.copy_named.ensures.disk.same_count ∙ c.check_root.ensures.disk.same_count) (c.in-Ok-check_root.ensures.looked shared) in
    let is = served_as_found count n version found.layout.sectors found.version from begun found.root images served looked in
    let named = c.in-Ok-copy_named.ensures.shared is.records ended copied into_honest (omega arith)
    (stretch count found.layout.sectors found.version images is found.root from begun ended now looked again) in
    let moment = named.0 in (
      moment,
      omega (arith, c.check_root.ensures.since, c.check_root.ensures.later.later, named.1),
      omega (arith, named.2, c.check_root-2.ensures.later.later),
      record {
        lives = lives_then count found.layout.sectors found.version images is found.root from begun ended now looked again moment named.1 named.2;
        version_is = is.version_is moment;
        records = is.records moment;
        journal = journal_then count found.layout.sectors found.version images is found.root from begun ended now looked again moment named.1 named.2;
        copies = named.3;
      },
    )
