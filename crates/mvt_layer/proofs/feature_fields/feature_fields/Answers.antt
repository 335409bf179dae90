use Rattle.pb_wire.specs.Items.{item_view, fields_rest}
use Rattle.mvt_layer.specs.Reading.{after, number_after, numbers_after}
use Rattle.mvt_layer.proofs.Walks.{leads_on, leads_to, leads_done}
use Rattle.mvt_layer.proofs.feature_fields.feature_fields.Goals as goal

pub loop-item-preserved : goal.loop-item-preserved
loop-item-preserved c =
    let item = item_view c.in-Some.item in
    let left = fields_rest c.loop-item.item-iterator in
    let others = fields_rest c.next.new.self in
    let first = c.in-Some.ensures.steps in
    let before = c.loop-item.fields in
    let next = c.add_item.new.fields in
    let added = c.add_item.new in
    let so_far = c.loop-item.invariant in
    let stepped = c.add_item.ensures in
    record {
      id = leads_on (λ n. n) (after 1 number_after) before.id next.id item left others _ first so_far.id stepped.id;
      kind = leads_on (λ n. n) (after 3 number_after) before.kind next.kind item left others _ first so_far.kind stepped.kind;
      indices = leads_to (λ _. c.loop-item.indices.items) (λ _. added.indices.items) (after 2 numbers_after) before.indices next.indices item left others _
          first so_far.indices stepped.indices;
      ints = leads_to (λ _. c.loop-item.ints.items) (λ _. added.ints.items) (after 4 numbers_after) before.ints next.ints item left others _
          first so_far.ints stepped.ints;
    }

pub returns-clause-id : goal.returns-clause-id
returns-clause-id c = leads_done (λ n. n) (after 1 number_after) c.loop-item.fields.id (fields_rest c.loop-item.item-iterator) _
    c.in-None.ensures.steps.0 c.loop-item.invariant.id

pub returns-clause-kind : goal.returns-clause-kind
returns-clause-kind c = leads_done (λ n. n) (after 3 number_after) c.loop-item.fields.kind (fields_rest c.loop-item.item-iterator) _
    c.in-None.ensures.steps.0 c.loop-item.invariant.kind

pub returns-clause-indices : goal.returns-clause-indices
returns-clause-indices c =
    leads_done (λ _. c.loop-item.indices.items) (after 2 numbers_after) c.loop-item.fields.indices (fields_rest c.loop-item.item-iterator) _
    c.in-None.ensures.steps.0 c.loop-item.invariant.indices

pub returns-clause-ints : goal.returns-clause-ints
returns-clause-ints c = leads_done (λ _. c.loop-item.ints.items) (after 4 numbers_after) c.loop-item.fields.ints (fields_rest c.loop-item.item-iterator) _
    c.in-None.ensures.steps.0 c.loop-item.invariant.ints
