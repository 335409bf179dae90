use Rattle.std.proofs.Common.{sym, ap, ◌∙◌}
use Rattle.std.specs.Prelude.{option_and_then}
use Rattle.edit_json.specs.Lists.{point_at, pair_at}
use Rattle.edit_json.proofs.ListLemmas.{pair_at-short, pair_at-long}
use Rattle.edit_json.proofs.lists.read_point.Goals as goal

pub returns-in_default : goal.returns-in_default
unfolding point_at
returns-in_default c =
    let e = pair_at-short c.in_ok-as_array.field-0.now.items (rw (← c.as_slice.ensures.value) c.in_default.len_below) in
    sym (ap (option_and_then pair_at) (sym c.in_ok-as_array.ensures) ∙ e)

pub returns-in_default-2 : goal.returns-in_default-2
unfolding point_at
returns-in_default-2 c =
    let e = pair_at-long c.in_ok-as_array.field-0.now.items (rw (← c.as_slice.ensures.value) c.in_default.len_at_least) in
    sym (ap (option_and_then pair_at) (sym c.in_ok-as_array.ensures) ∙ e)
