use Rattle.std.proofs.Common.{◌++◌, List, ℕ, [], map, subst, ap, ◌∙◌}
use Rattle.std.proofs.lemmas.Result.{on_ok_weaker}
use Rattle.mvt_layer.specs.Tile.{feature_view, layer_view}
use Rattle.mvt_write.specs.Writes.{Writes}
use Rattle.mvt_write.specs.Written.{bytes_field}
use Rattle.mvt_write.proofs.WriterSteps.{as_layer_of}
use Rattle.mvt_write.proofs.layer.put_layer.Goals as goal

pub returns-clause-written : goal.returns-clause-written
returns-clause-written c =
    let layer = c.args.layer.now in
    let name = layer.name.now in
    on_ok_weaker c.finish.result
    (λ finish.
    let writes : Writes c.put_features.new.writer name (map feature_view layer.features.items) [] =
    subst (λ fs. Writes c.put_features.new.writer name (map feature_view fs) []) c.deref.ensures.value
    (c.in_ok-put_features.ensures.writes name c.in_ok-writer.ensures) in
    finish name (map feature_view layer.features.items) writes
    ∙ ap (λ (b : List ℕ). c.args.out.now.items ++ bytes_field 3 b) (as_layer_of (layer_view layer) c.requires.extent c.requires.version))
    c.finish.ensures
