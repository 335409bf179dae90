use Rattle.std.proofs.Common.{◌≡◌, map, sym, ap, ◌∙◌}
use Rattle.std.proofs.lemmas.Result.{MatchResult-weaker, MatchResult-from_both}
use Rattle.serde_json.specs.View.{view}
use Rattle.feature_model.specs.declared.fault.EditFault.TheVariants as faults
use Rattle.feature_model.specs.Data.{change_data}
use Rattle.edit_json.specs.Asked.{asked_data}
use Rattle.edit_json.specs.Batches.{asked_json, list_json, asks_json}
use Rattle.edit_json.proofs.BatchLaws.{batch-one, batch-faultless, list-refused}
use Rattle.edit_json.proofs.batches.batch_from_json.Goals as goal

pub returns-in_default-clause-refused : goal.returns-in_default-clause-refused
returns-in_default-clause-refused c = λ ys asks. c.in_default.ensures (map asked_json ys) asks.is

pub returns-in_default-clause-reads_back : goal.returns-in_default-clause-reads_back
returns-in_default-clause-reads_back c = λ cs is. batch-faultless (view c.args.value.now) cs faults.Member is (returns-in_default-clause-refused c)

pub returns-in-Err-clause-refused : goal.returns-in-Err-clause-refused
returns-in-Err-clause-refused c = list-refused (view c.args.value.now) c.in-Some.list.now c.in-Err.fault c.in-Some.ensures c.in-Err.ensures.fault

pub returns-in-Err-clause-reads_back : goal.returns-in-Err-clause-reads_back
returns-in-Err-clause-reads_back c = λ cs is. batch-faultless (view c.args.value.now) cs c.in-Err.fault is (returns-in-Err-clause-refused c)

-- the value asks for what was read
asks_all : (c : goal.After-drop-all) → view c.args.value.now ≡ asks_json (map asked_data c.deref.result.now)
asks_all c = c.in-Some.ensures ∙ ap list_json c.in-Ok.ensures.found ∙ ap (λ xs. asks_json (map asked_data xs)) (sym c.deref.ensures.value)

pub returns-clause-found : goal.returns-clause-found
returns-clause-found c = rw (asks_all c) c.changes_of.ensures.found

pub returns-clause-refused : goal.returns-clause-refused
returns-clause-refused c = rw (asks_all c) c.changes_of.ensures.refused

pub returns-clause-reads_back : goal.returns-clause-reads_back
returns-clause-reads_back c = λ cs batch.
    MatchResult-weaker c.changes_of.result
    (MatchResult-from_both c.changes_of.result _ _ (returns-clause-found c) (returns-clause-refused c))
    (λ changes found. batch-one (view c.args.value.now) (map change_data changes.items) cs found batch)
    (λ fault refused. batch-faultless (view c.args.value.now) cs fault batch refused)
