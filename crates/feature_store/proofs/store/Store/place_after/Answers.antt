use Rattle.feature_store.proofs.Moments.{as_of_changed}
use Rattle.feature_store.proofs.store.Store.place_after.Goals as goal

pub returns-clause-as_of : goal.returns-clause-as_of
returns-clause-as_of c =
    let old = c.args.self.now.features in
    let new = c.set-replaced.new.self.features in
    let id = c.id-id.ensures.number in
    as_of_changed c.args.moment.now c.keep.new.self old new c.id-id.result c.keep.ensures.features c.keep.ensures.lost
    (λ there. c.keep.ensures.here old new there (rw id c.set-replaced.ensures.replaced)) c.keep.ensures.others
    (c.keep.ensures.kept (rw id c.set-replaced.ensures.own)) (λ n differs. c.set-replaced.ensures.others n (rw id at differs))
