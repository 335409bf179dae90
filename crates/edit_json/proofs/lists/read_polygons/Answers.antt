use Rattle.std.proofs.lemmas.Grind.{common_steps}
use Rattle.feature_model.specs.declared.fault.EditFault.TheVariants.{Memory}
use Rattle.std.proofs.Common.{◌≢◌, rules, sym, ◌∙◌, map, arith}
use Rattle.feature_model.specs.declared.limits.TheConstants.{MIN_RING}
use Rattle.std.proofs.lemmas.Result.{err_from_is_err_and}
use Rattle.edit_json.specs.Lists.{lines_at, list_of, each}
use Rattle.edit_json.proofs.ListLemmas.{list_of-refused, list_of-counted, rest_gives-end, rest_gives-fault}
use Rattle.edit_json.proofs.lists.read_polygons.Goals as goal

pub returns-in_err-check_count : goal.returns-in_err-check_count
returns-in_err-check_count c =
    let p = err_from_is_err_and c.from_residual.result c.from_residual.ensures.1 in
    rw (p.1, p.2) (λ _. list_of-refused (lines_at MIN_RING) 1 c.args.list.now c.in_err-check_count.field-0.0 c.in_err-check_count.ensures.fault)

pub returns : goal.returns
returns c =
    list_of-counted (lines_at MIN_RING) 1 c.args.list.now c.in_ok-check_count.ensures.ok
    ∙ sym c.loop-value.invariant.read
    ∙ rest_gives-end (lines_at MIN_RING) (map (λ p. map (λ r. r.items) p.items) c.loop-value.polygons.items) c.args.list.now c.loop-value.value-index
    (omega arith)

pub returns-in_err-polygon : goal.returns-in_err-polygon
returns-in_err-polygon c =
    let stops = λ (other : c.in_err-polygon.field-0.0 ≢ Memory).
    list_of-counted (lines_at MIN_RING) 1 c.args.list.now c.in_ok-check_count.ensures.ok
    ∙ rest_gives-fault (lines_at MIN_RING) (map (λ p. map (λ r. r.items) p.items) c.loop-value.polygons.items) c.args.list.now c.loop-value.value-index
    c.value-item.result
    c.in_err-polygon.field-0.0 _ c.loop-value-test.true c.value-item.is (c.in_err-polygon.ensures other) c.loop-value.invariant.read in
    search (rules, stops)

pub loop-value-preserved : goal.loop-value-preserved
unfolding list_of each
loop-value-preserved c = record {
  len = omega (arith, c.loop-value.invariant.len, c.push_reserved.ensures.len);
  room = omega (arith, c.loop-value.invariant.room, c.push_reserved.ensures.capacity);
  read = grind (arith, common_steps);
}

pub push_reserved-requires : goal.push_reserved-requires
push_reserved-requires c = omega (arith, c.loop-value.invariant.len, c.loop-value.invariant.room, c.loop-value-test.true)
