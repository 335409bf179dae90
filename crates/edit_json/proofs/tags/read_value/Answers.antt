use Rattle.std.proofs.Common.{rules}
use Rattle.edit_json.specs.Tags.{value_at}
use Rattle.edit_json.proofs.tags.read_value.Goals as goal

pub returns-then-not-is_tag_text-clause-value : goal.returns-then-not-is_tag_text-clause-value
unfolding value_at
returns-then-not-is_tag_text-clause-value c = search rules

pub returns-in_err-from_str-clause-value : goal.returns-in_err-from_str-clause-value
unfolding value_at
returns-in_err-from_str-clause-value c = search rules

pub returns-in-Some-clause-value : goal.returns-in-Some-clause-value
unfolding value_at
returns-in-Some-clause-value c = search rules

pub returns-in-Some-as_bool-clause-value : goal.returns-in-Some-as_bool-clause-value
unfolding value_at
returns-in-Some-as_bool-clause-value c = search rules

pub returns-in-Some-as_u64-clause-value : goal.returns-in-Some-as_u64-clause-value
unfolding value_at
returns-in-Some-as_u64-clause-value c = search rules

pub returns-in-Some-as_i64-clause-value : goal.returns-in-Some-as_i64-clause-value
unfolding value_at
returns-in-Some-as_i64-clause-value c = search rules

pub returns-in_default-as_i64-clause-value : goal.returns-in_default-as_i64-clause-value
unfolding value_at
returns-in_default-as_i64-clause-value c = search rules
