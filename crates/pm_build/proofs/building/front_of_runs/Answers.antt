use Rattle.std.proofs.Common.{◌∙◌}
use Rattle.pm_build.specs.Joined.{run_views}
use Rattle.pm_build.specs.Runs.{tiles_in}
use Rattle.pm_build.proofs.Different.{contents_of_runs}
use Rattle.pm_build.proofs.Entries.{are_placed}
use Rattle.pm_build.proofs.building.front_of_runs.Goals as goal

pub entries_of-requires-clause-contents : goal.entries_of-requires-clause-contents
entries_of-requires-clause-contents c =
    c.requires.contents ∙ contents_of_runs (run_views c.args.contents.now.contents c.args.runs.now) c.requires.longest.each

pub front_of-requires-clause-placed : goal.front_of-requires-clause-placed
front_of-requires-clause-placed c =
    let rs = run_views c.args.contents.now.contents c.args.runs.now in
    rw c.deref.ensures.value
    (are_placed (tiles_in rs) rs _ c.args.contents.now.contents c.requires.tiles c.requires.longest c.in_ok-entries.ensures.placed)
