use Rattle.std.proofs.Common.{◌≡◌, ◌++◌, length, map}
use Rattle.box_index.specs.Blocks.{joined}
use Rattle.box_index.proofs.sorted.fill.Given as goal

-- the entries so far, and those that are left
abbrev pub invariant-loop-rest : goal.invariant-loop-rest
invariant-loop-rest l = joined l.blocks.items ++ map (λ k. k.1) l.rest ≡ map (λ k. k.1) l.keyed

abbrev pub decreases-loop-rest : goal.decreases-loop-rest
decreases-loop-rest l = length l.rest
