use Rattle.std.proofs.Common.{◌≡◌, ◌++◌, take}
use Rattle.box_index.specs.Shown.{ids_shown}
use Rattle.box_index.specs.Blocks.{joined}
use Rattle.box_index.proofs.runs.add_shown.Given as goal

-- the ids so far
abbrev pub invariant-loop-block : goal.invariant-loop-block
invariant-loop-block l = l.found.items ≡ l.fn.found.items ++ ids_shown l.bounds l.zoom (joined (take l.block-index l.blocks))
