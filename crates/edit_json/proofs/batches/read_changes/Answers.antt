use Rattle.std.proofs.Common.{◌≡◌, ⊎_elim, inl, inr, [], ◌∷◌, map, All, sym, ap, subst, ◌∙◌, arith}
use Rattle.std.proofs.lemmas.List.{map-append, take_all}
use Rattle.std.proofs.lemmas.List.Elements.{All-push}
use Rattle.feature_model.specs.declared.fault.EditFault.TheVariants as faults
use Rattle.feature_model.specs.Data.{change_data}
use Rattle.feature_model.specs.Types.{ChangeFitsTypes}
use Rattle.edit_json.specs.Asked.{asked_data}
use Rattle.edit_json.specs.Batches.{asked_of, IsJsonChange, IsFirstAskedFault}
use Rattle.edit_json.proofs.BatchLaws.{changes-more, first-there}
use Rattle.edit_json.proofs.batches.read_changes.Goals as goal

pub loop-asked-preserved : goal.loop-asked-preserved
loop-asked-preserved c =
    let done = c.loop-asked.changes.items in
    let so_far = c.loop-asked.invariant in
    let pushed = ap (map change_data) c.push_reserved.ensures.items ∙ map-append change_data done (c.in-Ok.change ∷ []) in
    record {
      len = omega (arith, c.loop-asked.invariant.len, c.push_reserved.ensures.len);
      room = omega (arith, c.loop-asked.invariant.room, c.push_reserved.ensures.capacity);
      asked = changes-more c.args.all.now c.loop-asked.asked-index c.asked-item.result (map change_data done) (change_data c.in-Ok.change)
          c.loop-asked-test.true c.asked-item.is c.in-Ok.ensures.asked so_far.asked ∙ ap (map asked_of) (sym pushed);
      are = subst (All IsJsonChange) (sym pushed) (All-push IsJsonChange (map change_data done) (change_data c.in-Ok.change) so_far.are c.in-Ok.ensures.is);
      types = subst (All ChangeFitsTypes) (sym pushed)
          (All-push ChangeFitsTypes (map change_data done) (change_data c.in-Ok.change) so_far.types c.in-Ok.ensures.types);
    }

pub returns-in-Err-clause-fault : goal.returns-in-Err-clause-fault
returns-in-Err-clause-fault c = ⊎_elim
    (λ (memory : c.in-Err.fault ≡ faults.Memory). inl memory)
    (λ (first : IsFirstAskedFault (asked_data c.asked-item.result) c.in-Err.fault). inr (first-there c.args.all.now c.loop-asked.asked-index
    c.asked-item.result (map change_data c.loop-asked.changes.items) c.in-Err.fault c.loop-asked-test.true c.asked-item.is
    c.loop-asked.invariant.asked c.loop-asked.invariant.are first))
    c.in-Err.ensures.fault

pub returns-clause-asked : goal.returns-clause-asked
returns-clause-asked c =
    ap (map asked_data) (sym (take_all c.loop-asked.asked-index c.args.all.now c.loop-asked-test.false)) ∙ c.loop-asked.invariant.asked

pub push_reserved-requires : goal.push_reserved-requires
push_reserved-requires c = omega (arith, c.loop-asked.invariant.len, c.loop-asked.invariant.room, c.loop-asked-test.true)
