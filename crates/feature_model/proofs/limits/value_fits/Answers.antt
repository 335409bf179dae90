use Rattle.std.proofs.Common.{rules}
use Rattle.feature_model.proofs.limits.value_fits.Goals as goal

pub returns-in-Text : goal.returns-in-Text
returns-in-Text c = rw c.in-Text.is (rw c.as_str.ensures.value at c.is_tag_text.ensures)

pub returns-in-Negative : goal.returns-in-Negative
returns-in-Negative c = rw c.in-Negative.is (search rules)
