use Rattle.std.proofs.Common.{refl}
use Rattle.feature_model.specs.Data.{delete}
use Rattle.edit_text.specs.Reading.{change_behind}
use Rattle.edit_text.proofs.checking.check_change_of.Goals as goal

pub returns-in_ok-read_next_number-in-2 : goal.returns-in_ok-read_next_number-in-2
unfolding change_behind
returns-in_ok-read_next_number-in-2 c =
    (delete c.in_ok-read_next_number-in-2.field-0.0, rw (c.in-2.is, c.in_ok-read_next_number-in-2.ensures) refl)
