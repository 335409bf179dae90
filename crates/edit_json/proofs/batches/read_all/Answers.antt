use Rattle.std.proofs.Common.{inl, inr, [], ◌∷◌, ◌++◌, ◌+◌, length-append, arith, map, All, refl, sym, ap, subst, ◌∙◌}
use Rattle.std.proofs.lemmas.List.{map-append, take_all}
use Rattle.std.proofs.lemmas.Result.{err_from_is_err_and}
use Rattle.std.proofs.lemmas.List.Elements.{All-push}
use Rattle.serde_json.specs.View.{view}
use Rattle.edit_json.specs.Asked.{asked_data}
use Rattle.edit_json.specs.Batches.{asked_json, HasMembers}
use Rattle.edit_json.proofs.ListLaws.{begins-read, read-more, read-refused}
use Rattle.edit_json.proofs.batches.read_all.Goals as goal

pub loop-value-preserved : goal.loop-value-preserved
loop-value-preserved c =
    let done = c.loop-value.all.items in
    let pushed = ap (map asked_data) c.in_ok-push.ensures.items ∙ map-append asked_data done (c.in-Some.asked ∷ []) in
    record {
      found = read-more asked_json c.args.list.now c.loop-value.value-index c.value-item.result (map asked_data done) (asked_data c.in-Some.asked)
          c.loop-value-test.true c.value-item.is c.in-Some.ensures.0 c.loop-value.invariant.found ∙ ap (map asked_json) (sym pushed);
      members = subst (All HasMembers) (sym pushed) (All-push HasMembers (map asked_data done) (asked_data c.in-Some.asked)
          c.loop-value.invariant.members c.in-Some.ensures.1);
    }

pub returns-in_err-push-clause-fault : goal.returns-in_err-push-clause-fault
returns-in_err-push-clause-fault c =
    let p = err_from_is_err_and c.from_residual.result c.from_residual.ensures.1 in
    let done = map asked_data c.loop-value.all.items in
    let asked = asked_data c.in-Some.asked in
    let begins = begins-read asked_json HasMembers c.args.list.now (c.loop-value.value-index + 1) (done ++ asked ∷ [])
    (read-more asked_json c.args.list.now c.loop-value.value-index c.value-item.result done asked c.loop-value-test.true c.value-item.is
    c.in-Some.ensures.0 c.loop-value.invariant.found)
    (All-push HasMembers done asked c.loop-value.invariant.members c.in-Some.ensures.1) (omega (arith, length-append done (asked ∷ []))) in
    rw (p.1, p.2) (inl (refl, begins))

pub returns-in_default-clause-fault : goal.returns-in_default-clause-fault
returns-in_default-clause-fault c = inr (
  refl,
  λ ys same members. read-refused asked_json HasMembers c.args.list.now c.loop-value.value-index c.value-item.result c.loop-value-test.true c.value-item.is
      c.in_default.ensures ys same members,
)

pub returns-clause-found : goal.returns-clause-found
returns-clause-found c =
    ap (map view) (sym (take_all c.loop-value.value-index c.args.list.now c.loop-value-test.false)) ∙ c.loop-value.invariant.found
