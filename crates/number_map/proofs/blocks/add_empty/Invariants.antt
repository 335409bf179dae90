use Rattle.std.proofs.Common.{◌≡◌, ◌≤◌, [], All}
use Rattle.std.specs.Prelude.{vec_len}
use Rattle.number_map.proofs.blocks.add_empty.Given as goal

abbrev pub invariant-loop : goal.invariant-loop
invariant-loop g l = record {
  empty : All (λ b. b ≡ []) l.blocks.items;
  len : vec_len l.blocks ≡ l.counter;
  start : vec_len l.initial.blocks ≤ l.counter;
}
