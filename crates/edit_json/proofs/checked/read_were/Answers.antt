use Rattle.std.proofs.Common.{[], ◌∷◌, map, take, inr, sym, ap, subst, ◌∙◌, ◌+◌, arith}
use Rattle.std.proofs.lemmas.List.{map-append, take_all}
use Rattle.feature_model.specs.Seen.{seen_data}
use Rattle.edit_json.specs.Checked.{checked_data, Were}
use Rattle.edit_json.proofs.CheckedLaws.{were-read, first-was}
use Rattle.edit_json.proofs.checked.read_were.Goals as goal

pub loop-checked-preserved : goal.loop-checked-preserved
loop-checked-preserved c =
    let done = c.loop-checked.seen.items in
    let pushed = ap (map seen_data) c.push_reserved.ensures.items ∙ map-append seen_data done (c.in-Ok.was ∷ []) in
    record {
      len = omega (arith, c.loop-checked.invariant.len, c.push_reserved.ensures.len);
      room = omega (arith, c.loop-checked.invariant.room, c.push_reserved.ensures.capacity);
      read = subst (Were (map checked_data (take (c.loop-checked.checked-index + 1) c.args.all.now))) (sym pushed)
          (were-read c.args.all.now c.loop-checked.checked-index c.checked-item.result c.loop-checked-test.true c.checked-item.is (map seen_data done)
          c.loop-checked.invariant.read (seen_data c.in-Ok.was) c.in-Ok.ensures.number c.in-Ok.ensures.was);
    }

pub returns-in-Err-clause-fault : goal.returns-in-Err-clause-fault
returns-in-Err-clause-fault c = inr (first-was c.args.all.now c.loop-checked.checked-index c.checked-item.result c.loop-checked-test.true
    c.checked-item.is (map seen_data c.loop-checked.seen.items) c.loop-checked.invariant.read c.in-Err.fault c.in-Err.ensures.fault.0
    c.in-Err.ensures.fault.1)

pub returns-clause-were : goal.returns-clause-were
returns-clause-were c = subst (λ xs. Were (map checked_data xs) (map seen_data c.loop-checked.seen.items))
    (take_all c.loop-checked.checked-index c.args.all.now c.loop-checked-test.false) c.loop-checked.invariant.read

pub push_reserved-requires : goal.push_reserved-requires
push_reserved-requires c = omega (arith, c.loop-checked.invariant.len, c.loop-checked.invariant.room, c.loop-checked-test.true)
