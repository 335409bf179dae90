use Rattle.std.specs.Option.{option_map}
use Rattle.pb_wire.specs.Items.{item_view, fields_rest}
use Rattle.mvt_layer.specs.Tile.{bytes_of}
use Rattle.mvt_layer.specs.Reading.{after, number_after, bytes_after, parts_after}
use Rattle.mvt_layer.proofs.Walks.{leads_on, leads_to, leads_done}
use Rattle.mvt_layer.proofs.layer_fields.layer_fields.Goals as goal

pub loop-item-preserved : goal.loop-item-preserved
loop-item-preserved c =
    let item = item_view c.in-Some.item in
    let left = fields_rest c.loop-item.item-iterator in
    let others = fields_rest c.next.new.self in
    let first = c.in-Some.ensures.steps in
    let before = c.loop-item.fields in
    let next = c.add_item.new.so_far in
    let added = c.add_item.new in
    let so_far = c.loop-item.invariant in
    let stepped = c.add_item.ensures in
    record {
      name = leads_on (option_map (λ b. b.now)) (after 1 bytes_after) before.name next.name item left others _ first so_far.name stepped.name;
      features = leads_to (λ _. bytes_of c.loop-item.features.items) (λ _. bytes_of added.features.items) (after 2 parts_after) before.features next.features item left others _
          first so_far.features stepped.features;
      keys = leads_to (λ _. bytes_of c.loop-item.keys.items) (λ _. bytes_of added.keys.items) (after 3 parts_after) before.keys next.keys item left others _
          first so_far.keys stepped.keys;
      values = leads_to (λ _. bytes_of c.loop-item.values.items) (λ _. bytes_of added.values.items) (after 4 parts_after) before.values next.values item left others _
          first so_far.values stepped.values;
      extent = leads_on (λ n. n) (after 5 number_after) before.extent next.extent item left others _ first so_far.extent stepped.extent;
      version = leads_on (λ n. n) (after 15 number_after) before.version next.version item left others _ first so_far.version stepped.version;
    }

pub returns-clause-name : goal.returns-clause-name
returns-clause-name c = leads_done (option_map (λ b. b.now)) (after 1 bytes_after) c.loop-item.fields.name (fields_rest c.loop-item.item-iterator) _
    c.in-None.ensures.steps.0 c.loop-item.invariant.name

pub returns-clause-features : goal.returns-clause-features
returns-clause-features c = c.all_parts.ensures _
    (leads_done (λ _. bytes_of c.loop-item.features.items) (after 2 parts_after) c.loop-item.fields.features (fields_rest c.loop-item.item-iterator) _
    c.in-None.ensures.steps.0 c.loop-item.invariant.features)

pub returns-clause-keys : goal.returns-clause-keys
returns-clause-keys c = c.all_parts-2.ensures _
    (leads_done (λ _. bytes_of c.loop-item.keys.items) (after 3 parts_after) c.loop-item.fields.keys (fields_rest c.loop-item.item-iterator) _
    c.in-None.ensures.steps.0 c.loop-item.invariant.keys)

pub returns-clause-values : goal.returns-clause-values
returns-clause-values c = c.all_parts-3.ensures _
    (leads_done (λ _. bytes_of c.loop-item.values.items) (after 4 parts_after) c.loop-item.fields.values (fields_rest c.loop-item.item-iterator) _
    c.in-None.ensures.steps.0 c.loop-item.invariant.values)

pub returns-clause-extent : goal.returns-clause-extent
returns-clause-extent c = leads_done (λ n. n) (after 5 number_after) c.loop-item.fields.extent (fields_rest c.loop-item.item-iterator) _
    c.in-None.ensures.steps.0 c.loop-item.invariant.extent

pub returns-clause-version : goal.returns-clause-version
returns-clause-version c = leads_done (λ n. n) (after 15 number_after) c.loop-item.fields.version (fields_rest c.loop-item.item-iterator) _
    c.in-None.ensures.steps.0 c.loop-item.invariant.version
