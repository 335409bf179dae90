use Rattle.std.proofs.Common.{◌≡◌, ◌++◌, List, take}
use Rattle.tile_walk.specs.Cut.{AreInQuarters}
use Rattle.tile_walk.specs.declared.numbered.Numbered.{Numbered}
use Rattle.tile_walk.proofs.cut.place_each.Given as goal

-- the boxes so far are placed
abbrev pub invariant-loop-numbered : goal.invariant-loop-numbered
invariant-loop-numbered l = record {
  placed : l.cut.placed ≡ l.initial.cut.placed;
  quarters : (bs : List Numbered) → AreInQuarters l.half bs l.initial.cut → AreInQuarters l.half (bs ++ take l.numbered-index l.boxes) l.cut;
}
