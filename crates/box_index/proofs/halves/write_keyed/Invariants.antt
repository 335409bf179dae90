use Rattle.std.proofs.Common.{◌≡◌, length, map, take}
use Rattle.box_index.proofs.halves.write_keyed.Given as goal

-- the entries so far
abbrev pub invariant-loop-at : goal.invariant-loop-at
invariant-loop-at l = record {
  len : length l.keyed ≡ length l.entries;
  entries : map (λ k. k.1) (take l.at l.keyed) ≡ take l.at l.entries;
}
