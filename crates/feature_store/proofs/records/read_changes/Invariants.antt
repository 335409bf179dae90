use Rattle.std.proofs.Common.{◌≡◌, ◌≤◌, length, map}
use Rattle.std.specs.Prelude.{vec_len, vec_capacity}
use Rattle.feature_store.specs.Prepared.{prepared_data}
use Rattle.feature_store.proofs.RecordTexts.{AreRead}
use Rattle.feature_store.proofs.records.read_changes.Given as goal

abbrev pub invariant-loop : goal.invariant-loop
invariant-loop l = record {
  read : AreRead (map prepared_data l.changes.items) l.rest l.text;
  each : length l.changes.items ≡ l.counter;
  most : l.counter ≤ l.count;
  len : vec_len l.changes ≡ l.counter;
  room : l.count ≤ vec_capacity l.changes;
}
