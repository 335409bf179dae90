use Rattle.edit_json.proofs.ListedLemmas.{taken_is_batch, body_is_json}
use Rattle.edit_json.proofs.laws.a_body_of_its_changes_is_its_batch.Goals as goal

pub returns-clause-any : goal.returns-clause-any
returns-clause-any c = taken_is_batch

pub returns-clause-one : goal.returns-clause-one
returns-clause-one c = body_is_json
