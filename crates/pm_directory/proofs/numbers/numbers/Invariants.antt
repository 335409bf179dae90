use Rattle.std.proofs.Common.{◌≡◌, ◌-◌, ◌≤◌, length, vec_len, vec_capacity}
use Rattle.reader.specs.Reading.{repeated}
use Rattle.pm_directory.specs.Reading.{one_more, numbers_at}
use Rattle.pm_directory.proofs.numbers.numbers.Given as goal

abbrev pub invariant-loop-i : goal.invariant-loop-i
invariant-loop-i l = record {
  count : length l.numbers.items ≡ l.i;
  read : repeated one_more (l.count - l.i) (l.numbers.items, l.rest) ≡ numbers_at l.count l.bytes;
  long : vec_len l.numbers ≡ l.i;
  room : l.count ≤ vec_capacity l.numbers;
}
