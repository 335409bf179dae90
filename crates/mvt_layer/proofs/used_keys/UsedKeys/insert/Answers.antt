use Rattle.std.specs.Ordering.{nat_cmp}
use Rattle.std.specs.BTreeSet.{contains}
use Rattle.mvt_layer.proofs.Tags.{used_push}
use Rattle.mvt_layer.proofs.used_keys.UsedKeys.insert.Goals as goal

pub returns-in_ok-push-clause-more : goal.returns-in_ok-push-clause-more
returns-in_ok-push-clause-more c = λ _ q.
    let keys = c.args.self.now in
    used_push keys.few.items c.push.new.self.items c.args.key q (contains nat_cmp keys.many q) c.in_ok-push.ensures.items
