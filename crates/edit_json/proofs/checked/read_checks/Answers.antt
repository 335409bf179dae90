use Rattle.std.proofs.Common.{inl, inr, [], ◌∷◌, ◌++◌, ◌+◌, length-append, arith, map, All, refl, sym, ap, subst, ◌∙◌}
use Rattle.std.proofs.lemmas.List.{map-append, take_all}
use Rattle.std.proofs.lemmas.Result.{err_from_is_err_and}
use Rattle.std.proofs.lemmas.List.Elements.{All-push}
use Rattle.serde_json.specs.View.{view}
use Rattle.edit_json.specs.Checked.{checked_data, checked_json, HasCheckedMembers}
use Rattle.edit_json.proofs.ListLaws.{begins-read, read-more, read-refused}
use Rattle.edit_json.proofs.checked.read_checks.Goals as goal

pub loop-value-preserved : goal.loop-value-preserved
loop-value-preserved c =
    let done = c.loop-value.all.items in
    let pushed = ap (map checked_data) c.in_ok-push.ensures.items ∙ map-append checked_data done (c.in-Some.checked ∷ []) in
    record {
      found = read-more checked_json c.args.list.now c.loop-value.value-index c.value-item.result (map checked_data done) (checked_data c.in-Some.checked)
          c.loop-value-test.true c.value-item.is c.in-Some.ensures.0 c.loop-value.invariant.found ∙ ap (map checked_json) (sym pushed);
      members = subst (All HasCheckedMembers) (sym pushed) (All-push HasCheckedMembers (map checked_data done) (checked_data c.in-Some.checked)
          c.loop-value.invariant.members c.in-Some.ensures.1);
    }

pub returns-in_err-push-clause-fault : goal.returns-in_err-push-clause-fault
returns-in_err-push-clause-fault c =
    let p = err_from_is_err_and c.from_residual.result c.from_residual.ensures.1 in
    let done = map checked_data c.loop-value.all.items in
    let checked = checked_data c.in-Some.checked in
    let begins = begins-read checked_json HasCheckedMembers c.args.list.now (c.loop-value.value-index + 1) (done ++ checked ∷ [])
    (read-more checked_json c.args.list.now c.loop-value.value-index c.value-item.result done checked c.loop-value-test.true c.value-item.is
    c.in-Some.ensures.0 c.loop-value.invariant.found)
    (All-push HasCheckedMembers done checked c.loop-value.invariant.members c.in-Some.ensures.1) (omega (arith, length-append done (checked ∷ []))) in
    rw (p.1, p.2) (inl (refl, begins))

pub returns-in_default-clause-fault : goal.returns-in_default-clause-fault
returns-in_default-clause-fault c = inr (
  refl,
  λ ys same members. read-refused checked_json HasCheckedMembers c.args.list.now c.loop-value.value-index c.value-item.result c.loop-value-test.true
      c.value-item.is c.in_default.ensures ys same members,
)

pub returns-clause-found : goal.returns-clause-found
returns-clause-found c =
    ap (map view) (sym (take_all c.loop-value.value-index c.args.list.now c.loop-value-test.false)) ∙ c.loop-value.invariant.found
