use Rattle.std.proofs.Common.{◌∷◌, [], refl}
use Rattle.std.proofs.lemmas.List.{map-append}
use Rattle.mvt_layer.specs.Tile.{layer_view, layer_views}
use Rattle.mvt_layer.proofs.Tags.{names_more}
use Rattle.mvt_layer.proofs.named.NamedLayers.with.Goals as goal

pub invariant_of-result : goal.invariant_of-result
invariant_of-result c = record {
  same = rw (c.in_ok-push.ensures.items, map-append layer_view c.args.self.layers.items (c.args.layer ∷ []))
      (names_more c.args.self.names c.insert.new.self (layer_views c.args.self.layers.items) (layer_view c.args.layer)
      c.args.layer.name refl c.args.self.same c.in_ok-is_new.ensures.updates);
}
