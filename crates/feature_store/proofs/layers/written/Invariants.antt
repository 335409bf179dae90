use Rattle.std.proofs.Common.{◌≡◌, ◌++◌, ℕ, List, map, All}
use Rattle.mvt_layer.specs.Tile.{FeatureView}
use Rattle.mvt_write.specs.Written.{written}
use Rattle.feature_store.specs.Gathered.{HasWritten, layer_of}
use Rattle.feature_store.proofs.layers.written.Given as goal

-- the layers so far, and those that are left
abbrev pub invariant-loop-name : goal.invariant-loop-name
invariant-loop-name l = record {
  items : l.yielded ++ l._name-iterator ≡ l.fn.gathered.entries;
  bytes :
      (fs : List ℕ → List FeatureView) → All (HasWritten fs) l.fn.gathered.entries → l.out.items ≡ written (map (layer_of fs) l.yielded);
}
