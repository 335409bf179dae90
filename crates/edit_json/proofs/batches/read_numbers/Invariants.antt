use Rattle.std.proofs.Common.{◌≤◌, ◌≡◌, map, take, length}
use Rattle.std.specs.Prelude.{vec_len, vec_capacity}
use Rattle.edit_json.specs.Asked.{asked_data}
use Rattle.edit_json.specs.Batches.{asked_number}
use Rattle.edit_json.proofs.batches.read_numbers.Given as goal

abbrev pub invariant-loop-asked : goal.invariant-loop-asked
invariant-loop-asked l = record {
  len : vec_len l.numbers ≡ l.asked-index;
  room : length l.all ≤ vec_capacity l.numbers;
  read : l.numbers.items ≡ map asked_number (map asked_data (take l.asked-index l.all));
}
