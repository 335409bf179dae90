use Rattle.std.proofs.lemmas.Grind.{common_steps}
use Rattle.std.proofs.Common.{sym, ◌∙◌, arith}
use Rattle.std.proofs.lemmas.Result.{err_from_is_err_and}
use Rattle.edit_json.specs.Lists.{point_in, list_of, each}
use Rattle.edit_json.proofs.ListLemmas.{list_of-refused, list_of-counted, rest_gives-end}
use Rattle.edit_json.proofs.lists.read_points.Goals as goal

pub returns-in_err-check_count : goal.returns-in_err-check_count
returns-in_err-check_count c =
    let p = err_from_is_err_and c.from_residual.result c.from_residual.ensures.1 in
    rw (p.1, p.2) (λ _. list_of-refused point_in c.args.least c.args.list.now c.in_err-check_count.field-0.0 c.in_err-check_count.ensures.fault)

pub returns : goal.returns
returns c =
    list_of-counted point_in c.args.least c.args.list.now c.in_ok-check_count.ensures.ok
    ∙ sym c.loop-value.invariant.read ∙ rest_gives-end point_in c.loop-value.points.items c.args.list.now c.loop-value.value-index (omega arith)

pub returns-in_err-point : goal.returns-in_err-point
unfolding list_of each
returns-in_err-point c = grind (arith, common_steps)

pub loop-value-preserved : goal.loop-value-preserved
unfolding list_of each
loop-value-preserved c = record {
  len = omega (arith, c.loop-value.invariant.len, c.push_reserved.ensures.len);
  room = omega (arith, c.loop-value.invariant.room, c.push_reserved.ensures.capacity);
  read = grind (arith, common_steps);
}

pub push_reserved-requires : goal.push_reserved-requires
push_reserved-requires c = omega (arith, c.loop-value.invariant.len, c.loop-value.invariant.room, c.loop-value-test.true)
