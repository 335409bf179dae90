use Rattle.std.proofs.Common.{◌≡◌, ◌+◌, ◌≤◌, ◌++◌, map, take}
use Rattle.std.specs.Prelude.{vec_len, vec_capacity}
use Rattle.box_index.proofs.halves.append.Given as goal

-- the entries so far
abbrev pub invariant-loop-entry : goal.invariant-loop-entry
invariant-loop-entry l = record {
  items : l.entries.items ≡ l.fn.entries.items ++ map (λ k. k.1) (take l.entry-index l.keyed);
  len : vec_len l.entries ≡ vec_len l.fn.entries + l.entry-index;
  capacity : vec_capacity l.fn.entries ≤ vec_capacity l.entries;
}
