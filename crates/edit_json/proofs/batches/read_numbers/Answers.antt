use Rattle.std.proofs.Common.{[], ◌∷◌, ◌++◌, map, ap, ◌∙◌, arith}
use Rattle.std.proofs.lemmas.List.{take_all}
use Rattle.edit_json.specs.Asked.{asked_data}
use Rattle.edit_json.specs.Batches.{asked_number}
use Rattle.edit_json.proofs.BatchLaws.{asked-more}
use Rattle.edit_json.proofs.batches.read_numbers.Goals as goal

pub loop-asked-preserved : goal.loop-asked-preserved
loop-asked-preserved c = record {
  len = omega (arith, c.loop-asked.invariant.len, c.push_reserved.ensures.len);
  room = omega (arith, c.loop-asked.invariant.room, c.push_reserved.ensures.capacity);
  read = c.push_reserved.ensures.items ∙ ap (λ n. c.loop-asked.numbers.items ++ n ∷ []) c.number.ensures
      ∙ asked-more c.args.all.now c.loop-asked.asked-index c.asked-item.result c.loop-asked.numbers.items c.loop-asked-test.true c.asked-item.is
      c.loop-asked.invariant.read;
}

pub returns-clause-numbers : goal.returns-clause-numbers
returns-clause-numbers c =
    c.loop-asked.invariant.read
    ∙ ap (λ xs. map asked_number (map asked_data xs)) (take_all c.loop-asked.asked-index c.args.all.now c.loop-asked-test.false)

pub push_reserved-requires : goal.push_reserved-requires
push_reserved-requires c = omega (arith, c.loop-asked.invariant.len, c.loop-asked.invariant.room, c.loop-asked-test.true)
