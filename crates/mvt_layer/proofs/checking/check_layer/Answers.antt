use Rattle.std.proofs.Common.{Ok, Err}
use Rattle.mvt_layer.specs.Tile.{LayerView}
use Rattle.mvt_layer.proofs.FieldLaws.{FieldsOf, layer_gives}
use Rattle.mvt_layer.proofs.Checked.{found_layer, fault_layer}
use Rattle.mvt_layer.proofs.checking.check_layer.Goals as goal

pub returns-clause-found : goal.returns-clause-found
returns-clause-found c =
    let said = c.layer_fields-fields.ensures in
    found_layer c.args.bytes.now c.layer_fields-fields.result
    (record { name = said.name; features = said.features; keys = said.keys; values = said.values; extent = said.extent; version = said.version })
    (λ name. name.now) c.check_said.result c.check_said.ensures.found

pub returns-clause-fault : goal.returns-clause-fault
returns-clause-fault c =
    let said = c.layer_fields-fields.ensures in
    fault_layer c.args.bytes.now c.layer_fields-fields.result
    (record { name = said.name; features = said.features; keys = said.keys; values = said.values; extent = said.extent; version = said.version })
    c.check_said.result c.check_said.ensures.fault
