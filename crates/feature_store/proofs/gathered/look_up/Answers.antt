use Rattle.std.proofs.Common.{◌++◌, get_or, sym, ap, ◌∙◌, arith}
use Rattle.std.proofs.lemmas.List.{take_all}
use Rattle.feature_store.specs.Chosen.{chosen}
use Rattle.feature_store.specs.Store.{entry_at}
use Rattle.feature_store.proofs.Chosen.{chosen_more}
use Rattle.feature_store.proofs.gathered.look_up.Goals as goal

pub loop-number-preserved : goal.loop-number-preserved
loop-number-preserved c =
    let m = c.args.moment.now.features in
    let number = get_or c.args.numbers.now c.loop-number.number-index 0 in
    c.in_ok-push_stored.ensures ∙ ap (λ es. es ++ entry_at m number) c.loop-number.invariant
    ∙ sym (chosen_more m c.args.numbers.now c.loop-number.number-index c.loop-number-test.true)

pub returns : goal.returns
returns c =
    c.loop-number.invariant
    ∙ ap (chosen c.args.moment.now.features)
    (take_all c.loop-number.number-index c.args.numbers.now (omega (arith, c.loop-number-test.false)))
