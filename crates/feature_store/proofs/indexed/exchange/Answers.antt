use Rattle.feature_store.proofs.Kept.{exchanged, left_there}
use Rattle.feature_store.proofs.indexed.exchange.Goals as goal

pub returns-clause-entries : goal.returns-clause-entries
returns-clause-entries c =
    exchanged c.args.index.now.entries c.remove.new.self.entries c.insert.new.self.entries c.args.old.now c.args.entry c.remove.result
    c.remove.ensures.found.1 c.remove.ensures.taken c.insert.ensures.entries

pub returns-then-eq-clause-entries : goal.returns-then-eq-clause-entries
returns-then-eq-clause-entries c = left_there c.args.index.now.entries c.args.old.now c.args.entry c.if-eq.ensures
