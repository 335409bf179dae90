use Rattle.std.proofs.Common.{◌≡◌, ◌++◌, take}
use Rattle.feature_store.specs.Boxes.{boxes_in}
use Rattle.feature_store.proofs.feature_boxes.append_boxes.Given as goal

abbrev pub invariant-loop-entry : goal.invariant-loop-entry
invariant-loop-entry l = l.tiles.items ≡ l.initial.tiles.items ++ boxes_in l.zoom (take l.entry-index l.boxes)
