use Rattle.feature_store.proofs.all_tiles.Tiles.of_boxes.Goals as goal

pub invariant_of-result : goal.invariant_of-result
invariant_of-result c = record {
  is_map = c.requires;
  zoom = c.new.ensures.zoom;
  first = rw c.new.ensures.first tt;
  left = c.new.ensures.left c.args.map;
  hand = tt;
}
