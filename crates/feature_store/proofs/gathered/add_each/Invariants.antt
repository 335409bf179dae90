use Rattle.std.proofs.Common.{ℕ, List, ◌++◌, map, take}
use Rattle.mvt_layer.specs.Tile.{FeatureView}
use Rattle.feature_store.specs.Chosen.{found_data}
use Rattle.feature_store.specs.Gathered.{Gathers}
use Rattle.feature_store.specs.Layers.{cuts_of}
use Rattle.feature_store.proofs.gathered.add_each.Given as goal

abbrev pub invariant-loop-one : goal.invariant-loop-one
invariant-loop-one l = (fs : List ℕ → List FeatureView) → Gathers l.initial.gathered fs
    → Gathers l.gathered (λ name. fs name ++ cuts_of (map found_data (take l.one-index l.found)) name l.at.z l.at.x l.at.y)
