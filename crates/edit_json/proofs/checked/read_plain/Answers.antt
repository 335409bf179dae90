use Rattle.std.proofs.Common.{[], ◌∷◌, map, ap, ◌∙◌}
use Rattle.std.proofs.lemmas.List.{map-append, take_all}
use Rattle.edit_json.specs.Asked.{asked_data}
use Rattle.edit_json.specs.Checked.{checked_data, plain}
use Rattle.edit_json.proofs.CheckedLaws.{plain-more}
use Rattle.edit_json.proofs.checked.read_plain.Goals as goal

pub loop-checked-preserved : goal.loop-checked-preserved
loop-checked-preserved c =
    ap (map asked_data) c.in_ok-push.ensures.items ∙ map-append asked_data c.loop-checked.asked.items (c.checked-item.result.asked ∷ [])
    ∙ plain-more c.args.all.now c.loop-checked.checked-index c.checked-item.result (map asked_data c.loop-checked.asked.items)
    c.loop-checked-test.true c.checked-item.is c.loop-checked.invariant

pub returns-clause-plain : goal.returns-clause-plain
returns-clause-plain c =
    c.loop-checked.invariant
    ∙ ap (λ xs. plain (map checked_data xs)) (take_all c.loop-checked.checked-index c.args.all.now c.loop-checked-test.false)
