use Rattle.std.proofs.Common.{true, false, refl}
use Rattle.std.specs.Int.{w64, cast_signed}
use Rattle.feature_model.specs.Data.{text_value, natural_value, negative_value, truth_value}
use Rattle.edit_text.specs.Reading.{value_behind}
use Rattle.edit_text.proofs.checked_tags.check_value_of.Goals as goal

pub returns-in_ok-read_long_text-in-1 : goal.returns-in_ok-read_long_text-in-1
unfolding value_behind
returns-in_ok-read_long_text-in-1 c =
    (text_value c.in_ok-read_long_text-in-1.field-0.0.now, rw (c.in-1.is, c.in_ok-read_long_text-in-1.ensures) refl)

pub returns-in_ok-read_u64-in-2 : goal.returns-in_ok-read_u64-in-2
unfolding value_behind
returns-in_ok-read_u64-in-2 c = (natural_value c.in_ok-read_u64-in-2.field-0.0, rw (c.in-2.is, c.in_ok-read_u64-in-2.ensures) refl)

pub returns-in_ok-read_negative-in-3 : goal.returns-in_ok-read_negative-in-3
unfolding value_behind
returns-in_ok-read_negative-in-3 c =
    (negative_value (cast_signed w64 c.in_ok-read_negative-in-3.field-0.0), rw (c.in-3.is, c.in_ok-read_negative-in-3.ensures) refl)

pub returns-in-4 : goal.returns-in-4
unfolding value_behind
returns-in-4 c = (truth_value false, rw c.in-4.is refl)

pub returns-in-5 : goal.returns-in-5
unfolding value_behind
returns-in-5 c = (truth_value true, rw c.in-5.is refl)
