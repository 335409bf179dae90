use Rattle.std.proofs.Common.{◌≡◌, map, sym, ap, ◌∙◌}
use Rattle.std.proofs.lemmas.Result.{MatchResult-weaker, MatchResult-from_both}
use Rattle.serde_json.specs.View.{view}
use Rattle.feature_model.specs.declared.fault.EditFault.TheVariants as faults
use Rattle.feature_model.specs.Data.{change_data}
use Rattle.feature_model.specs.Seen.{seen_data}
use Rattle.edit_json.specs.Batches.{list_json}
use Rattle.edit_json.specs.Checked.{checked_data, checked_json, checks_json}
use Rattle.edit_json.proofs.CheckedLaws.{checked-edit-one, checked-faultless, checks-refused}
use Rattle.edit_json.proofs.checked.checked_from_json.Goals as goal

pub returns-in_default-clause-refused : goal.returns-in_default-clause-refused
returns-in_default-clause-refused c = λ xs asks. c.in_default.ensures (map checked_json xs) asks.is

pub returns-in_default-clause-reads_back : goal.returns-in_default-clause-reads_back
returns-in_default-clause-reads_back c =
    λ cs were is. checked-faultless (view c.args.value.now) cs were faults.Member is (returns-in_default-clause-refused c)

pub returns-in-Err-clause-refused : goal.returns-in-Err-clause-refused
returns-in-Err-clause-refused c =
    checks-refused (view c.args.value.now) (map view c.in-Some.list.now) c.in-Err.fault c.in-Some.ensures c.in-Err.ensures.fault

pub returns-in-Err-clause-reads_back : goal.returns-in-Err-clause-reads_back
returns-in-Err-clause-reads_back c =
    λ cs were is. checked-faultless (view c.args.value.now) cs were c.in-Err.fault is (returns-in-Err-clause-refused c)

-- the value asks for what was read
asks_all : (c : goal.After-drop-all) → view c.args.value.now ≡ checks_json (map checked_data c.deref.result.now)
asks_all c = c.in-Some.ensures ∙ ap list_json c.in-Ok.ensures.found ∙ ap (λ xs. checks_json (map checked_data xs)) (sym c.deref.ensures.value)

pub returns-clause-found : goal.returns-clause-found
returns-clause-found c = rw (asks_all c) c.checked_of.ensures.found

pub returns-clause-refused : goal.returns-clause-refused
returns-clause-refused c = rw (asks_all c) c.checked_of.ensures.refused

pub returns-clause-reads_back : goal.returns-clause-reads_back
returns-clause-reads_back c = λ cs were batch.
    MatchResult-weaker c.checked_of.result
    (MatchResult-from_both c.checked_of.result _ _ (returns-clause-found c) (returns-clause-refused c))
    (λ found is. checked-edit-one (view c.args.value.now) (map change_data found.0.items) cs (map seen_data found.1.items) were is batch)
    (λ fault refused. checked-faultless (view c.args.value.now) cs were fault batch refused)
