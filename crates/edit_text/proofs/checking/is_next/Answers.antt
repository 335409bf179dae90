use Rattle.std.proofs.Common.{map}
use Rattle.feature_model.specs.Data.{change_data}
use Rattle.edit_text.proofs.NewNumbers.{told_new}
use Rattle.edit_text.proofs.checking.is_next.Goals as goal

pub returns : goal.returns
returns c = told_new (map change_data c.args.changes.now) c.args.number c.is_new.result c.is_new.ensures
