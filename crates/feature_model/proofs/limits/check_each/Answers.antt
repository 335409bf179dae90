use Rattle.std.proofs.Common.{refl}
use Rattle.feature_model.proofs.Changes.{fits_step, fits_all, first_within}
use Rattle.feature_model.proofs.limits.check_each.Goals as goal

pub returns-in-Err-clause-first : goal.returns-in-Err-clause-first
returns-in-Err-clause-first c = first_within c.loop-change.change-index c.args.changes.now c.change-item.result c.in-Err.fault c.loop-change-test.true
    c.change-item.is c.loop-change.invariant c.in-Err.ensures.first

pub loop-change-preserved : goal.loop-change-preserved
loop-change-preserved c = fits_step c.loop-change.change-index c.args.changes.now c.change-item.result c.loop-change-test.true c.change-item.is
    (c.in-Ok.ensures.ok.0 refl) c.loop-change.invariant

pub returns-clause-ok : goal.returns-clause-ok
returns-clause-ok c = fits_all c.loop-change.change-index c.args.changes.now c.loop-change-test.false c.loop-change.invariant
