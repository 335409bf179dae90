use Rattle.edit_json.proofs.CutLemmas.{listed_length, put_length}
use Rattle.edit_json.proofs.laws.lengths_of_texts.Goals as goal

pub returns-clause-listed : goal.returns-clause-listed
returns-clause-listed c = listed_length

pub returns-clause-put : goal.returns-clause-put
returns-clause-put c = put_length
