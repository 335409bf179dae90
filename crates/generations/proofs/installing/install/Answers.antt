use Rattle.std.proofs.Common.{◌∙◌, ap, rules}
use Rattle.sector_disk.specs.Disk.{seen}
use Rattle.generations.proofs.Installs.{begun_leaves, written_leaves}
use Rattle.generations.proofs.installing.install.Goals as goal

pub returns-in_err-sync-clause-any_moment : goal.returns-in_err-sync-clause-any_moment
returns-in_err-sync-clause-any_moment g c honest = begun_leaves c.args.root _ _ _ (c.sync.ensures.syncs honest)

pub returns-clause-any_moment : goal.returns-clause-any_moment
returns-clause-any_moment g c honest =
    let between = c.write_and_sync.ensures.disk.was_honest honest in
    written_leaves c.args.root _ _ (c.in_ok-sync.ensures.syncs between) _ (c.sync.ensures.syncs between) _ c.root_bytes-sector.ensures _
    (c.write_and_sync.ensures.leaves honest)

-- with an answer the must-fail edit root_always_in_sector_one is refused at once
pub returns-clause-others : goal.returns-clause-others
returns-clause-others g c honest at apart =
    let between = c.write_and_sync.ensures.disk.was_honest honest in
    c.write_and_sync.ensures.others honest at apart ∙ ap (λ h. seen h at) (c.in_ok-sync.ensures.syncs between)

-- with an answer the must-fail edit root_before_area_is_synced is refused at once
pub returns-clause-installed : goal.returns-clause-installed
returns-clause-installed g c = search rules
