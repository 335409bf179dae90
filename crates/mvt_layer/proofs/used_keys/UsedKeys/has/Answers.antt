use Rattle.std.specs.Ordering.{nat_cmp}
use Rattle.std.specs.BTreeSet.{contains}
use Rattle.mvt_layer.proofs.Tags.{used_few, used_many}
use Rattle.mvt_layer.proofs.used_keys.UsedKeys.has.Goals as goal

pub returns-then-contains : goal.returns-then-contains
returns-then-contains c =
    let keys = c.args.self.now in
    used_few keys.few.items c.args.key c.contains.result (contains nat_cmp keys.many c.args.key)
    (rw c.deref.ensures.value at c.contains.ensures.value) c.if-contains.true

pub returns-else-contains : goal.returns-else-contains
returns-else-contains c =
    let keys = c.args.self.now in
    used_many keys.few.items c.args.key c.contains.result (contains nat_cmp keys.many c.args.key) c.contains-else-contains.result
    (rw c.deref.ensures.value at c.contains.ensures.value) c.if-contains.false c.contains-else-contains.ensures
