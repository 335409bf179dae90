use Rattle.std.proofs.Common.{map, rules, ◌≢◌, ◌∷◌, []}
use Rattle.std.proofs.lemmas.List.{map-append}
use Rattle.feature_model.specs.Data.{change_data}
use Rattle.edit_text.specs.Reading.{change_at}
use Rattle.edit_text.specs.declared.fault.TextFault.TheVariants.{Memory}
use Rattle.reader.proofs.Steps.{found_fault}
use Rattle.edit_text.proofs.Many.{many_step, many_stop, many_done}
use Rattle.edit_text.proofs.edits.read_each_change.Goals as goal

pub loop-preserved : goal.loop-preserved
loop-preserved c =
    let done = map change_data c.loop.changes.items in
    let one = rw c.deref.ensures.value at c.in_ok-change.ensures in
    rw (c.in_ok-push.ensures.items, map-append change_data c.loop.changes.items (c.in_ok-change.change ∷ []))
    (many_step change_at c.args.count c.loop.counter done c.loop.rest.now _ _ _ c.loop-test.true c.loop.invariant one)

pub returns-in_err-change : goal.returns-in_err-change
returns-in_err-change c =
    let stops = λ (other : c.in_err-change.field-0.0 ≢ Memory).
    many_stop change_at c.args.count c.loop.counter (map change_data c.loop.changes.items) c.loop.rest.now c.in_err-change.field-0.0 _
    c.loop-test.true c.loop.invariant (rw c.deref.ensures.value at (found_fault Memory _ _ c.in_err-change.ensures other)) in
    search (rules, stops)

pub returns : goal.returns
returns c = many_done change_at c.args.count c.loop.counter (map change_data c.loop.changes.items) c.loop.rest.now _ c.loop-test.false c.loop.invariant
