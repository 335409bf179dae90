use Rattle.edit_json.proofs.ListedLemmas.{edit_is_json}
use Rattle.edit_json.proofs.CutLemmas.{cut}
use Rattle.edit_json.proofs.laws.listed_text_is_its_edit.Goals as goal

pub returns-clause-listed : goal.returns-clause-listed
returns-clause-listed c = edit_is_json

pub returns-clause-cut : goal.returns-clause-cut
returns-clause-cut c = cut
