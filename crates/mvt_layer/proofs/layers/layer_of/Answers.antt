use Rattle.mvt_layer.specs.Tile.{layer_view}
use Rattle.mvt_layer.proofs.FieldLaws.{layer_gives}
use Rattle.mvt_layer.proofs.layers.layer_of.Goals as goal

pub returns : goal.returns
returns c =
    let said = c.layer_fields-fields.ensures in
    layer_gives layer_view c.layer_said.result c.args.bytes.now c.layer_fields-fields.result
    (record { name = said.name; features = said.features; keys = said.keys; values = said.values; extent = said.extent; version = said.version })
    c.layer_said.ensures
