use Rattle.feature_store.proofs.RecordTexts.{empty_is_none}
use Rattle.feature_store.proofs.records.split_count.Goals as goal

pub returns-in-empty-clause-none : goal.returns-in-empty-clause-none
returns-in-empty-clause-none c = λ _ cs is. empty_is_none c.args.version cs c.args.text.now c.in-2.is c.in-empty.len_below is
