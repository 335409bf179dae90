use Rattle.std.proofs.Common.{◌≡◌, take}
use Rattle.box_index.specs.Shown.{ids_shown}
use Rattle.feature_store.proofs.feature_boxes.numbers_shown.Given as goal

abbrev pub invariant-loop-entry : goal.invariant-loop-entry
invariant-loop-entry l = l.numbers.items ≡ ids_shown l.bounds l.zoom (take l.entry-index l.boxes)
