use Rattle.pm_build.proofs.CounterSteps.{last_like}
use Rattle.pm_build.proofs.counter.ArchiveCounter.last_like.Goals as goal

pub returns : goal.returns
returns c =
    let inside = c.self.inside in
    last_like inside.contents inside.runs.items inside.addressed c.self.invariant.kept c.args.self.now c.args.content.now c.hash_of.result c.last_of.result
    c.self.view_is c.hash_of.ensures c.last_of.ensures
