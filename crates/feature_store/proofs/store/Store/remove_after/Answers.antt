use Rattle.feature_store.proofs.Moments.{as_of_changed}
use Rattle.feature_store.proofs.store.Store.remove_after.Goals as goal

pub returns-clause-as_of : goal.returns-clause-as_of
returns-clause-as_of c =
    let old = c.args.self.now.features in
    let new = c.take-bounds.new.self.features in
    as_of_changed c.args.moment.now c.keep.new.self old new c.args.id c.keep.ensures.features c.keep.ensures.lost
    (λ there. c.keep.ensures.here old new there c.take-bounds.ensures.removed) c.keep.ensures.others (c.keep.ensures.kept c.take-bounds.ensures.own)
    c.take-bounds.ensures.others
