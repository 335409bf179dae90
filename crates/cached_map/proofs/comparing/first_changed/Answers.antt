use Rattle.std.proofs.Common.{sym, ◌∙◌}
use Rattle.std.proofs.lemmas.Bool.{false≢true}
use Rattle.cached_map.proofs.SeenFeatures.{same_step, same_all, first_is}
use Rattle.cached_map.proofs.comparing.first_changed.Goals as goal

pub returns-then-not-is_as_seen : goal.returns-then-not-is_as_seen
returns-then-not-is_as_seen c = first_is c.args.store.now.features c.loop-seen.seen-index c.args.all.now c.seen-item.result c.loop-seen-test.true
    c.seen-item.is (λ same. false≢true (sym c.if-not-is_as_seen.true ∙ c.is_as_seen.ensures.1 same)) c.loop-seen.invariant

pub loop-seen-preserved : goal.loop-seen-preserved
loop-seen-preserved c = same_step c.args.store.now.features c.loop-seen.seen-index c.args.all.now c.seen-item.result c.loop-seen-test.true
    c.seen-item.is (c.is_as_seen.ensures.0 c.if-not-is_as_seen.false) c.loop-seen.invariant

pub returns : goal.returns
returns c = same_all c.args.store.now.features c.loop-seen.seen-index c.args.all.now c.loop-seen-test.false c.loop-seen.invariant
