use Rattle.pm_build.proofs.CounterSteps.{like_before}
use Rattle.pm_build.proofs.Indexing.{up_to_before}
use Rattle.pm_build.proofs.counter.ArchiveCounter.like_before.Goals as goal

pub returns-clause-next : goal.returns-clause-next
returns-clause-next c content next other =
    let inside = c.self.inside in
    like_before inside.contents inside.runs.items inside.addressed c.self.invariant.kept c.args.self.now content c.args.place c.before-2.result c.self.view_is
    c.before-2.ensures next other

pub returns-clause-before : goal.returns-clause-before
returns-clause-before c = up_to_before c.self.inside.contents.contents _ c.args.place c.before-2.result c.before-2.ensures
