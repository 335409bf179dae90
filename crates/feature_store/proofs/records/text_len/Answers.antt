use Rattle.std.proofs.Common.{sym}
use Rattle.feature_model.proofs.TextLengths.{length-spelled_delete}
use Rattle.feature_store.proofs.records.text_len.Goals as goal

pub returns-in-Delete : goal.returns-in-Delete
returns-in-Delete c = rw c.in-Delete.is (sym (length-spelled_delete c.in-Delete.id))
