use Rattle.std.proofs.Common.{◌≡◌, map, refl, sym, ap, subst, ◌∙◌, All}
use Rattle.feature_model.specs.Data.{change_data}
use Rattle.edit_json.specs.Asked.{asked_data}
use Rattle.edit_json.specs.Batches.{asks_json, HasMembers, IsBatch, IsFirstBatchFault}
use Rattle.edit_json.specs.Checked.{checked_data, checks_json, plain, IsFirstCheckedFault}
use Rattle.edit_json.proofs.CheckedLaws.{plain-members, plain-refused, was-refused, memory-asked}
use Rattle.edit_json.proofs.checked.checked_of.Goals as goal

pub returns-in-Err-clause-refused : goal.returns-in-Err-clause-refused
returns-in-Err-clause-refused c = subst (IsFirstCheckedFault (checks_json (map checked_data c.args.all.now))) (sym c.in-Err.ensures.memory.0)
    (memory-asked c.args.all.now c.requires c.in-Err.ensures.memory.1)

pub changes_of-requires : goal.changes_of-requires
changes_of-requires c =
    subst (All HasMembers) (sym (ap (map asked_data) c.deref.ensures.value ∙ c.in-Ok.ensures.plain))
    (plain-members (map checked_data c.args.all.now) c.requires)

pub returns-in-Err-changes_of-clause-refused : goal.returns-in-Err-changes_of-clause-refused
returns-in-Err-changes_of-clause-refused c =
    let xs = map checked_data c.args.all.now in
    let same : map asked_data c.deref.result.now ≡ plain xs = ap (map asked_data) c.deref.ensures.value ∙ c.in-Ok.ensures.plain in
    plain-refused (checks_json xs) xs c.in-Err-changes_of.fault (record { is = refl; members = c.requires })
    (subst (λ ys. IsFirstBatchFault (asks_json ys) c.in-Err-changes_of.fault) same c.in-Err-changes_of.ensures.refused)

pub returns-in-Ok-read_were-clause-found : goal.returns-in-Ok-read_were-clause-found
returns-in-Ok-read_were-clause-found c =
    let xs = map checked_data c.args.all.now in
    let same : map asked_data c.deref.result.now ≡ plain xs = ap (map asked_data) c.deref.ensures.value ∙ c.in-Ok.ensures.plain in
    record {
      asked = xs;
      is = record { is = refl; members = c.requires };
      batch = subst (λ ys. IsBatch (asks_json ys) (map change_data c.in-Ok-changes_of.changes.items)) same c.in-Ok-changes_of.ensures.found;
      were = c.in-Ok-read_were.ensures.were;
    }

pub returns-clause-refused : goal.returns-clause-refused
returns-clause-refused c =
    let xs = map checked_data c.args.all.now in
    let cs = map change_data c.in-Ok-changes_of.changes.items in
    let same : map asked_data c.deref.result.now ≡ plain xs = ap (map asked_data) c.deref.ensures.value ∙ c.in-Ok.ensures.plain in
    was-refused (checks_json xs) xs cs c.in-Err-read_were.fault (record { is = refl; members = c.requires })
    (subst (λ ys. IsBatch (asks_json ys) cs) same c.in-Ok-changes_of.ensures.found) c.in-Err-read_were.ensures.fault
