use Rattle.std.proofs.Common.{◌≡◌, ◌≤◌, length, map, take}
use Rattle.std.specs.Prelude.{vec_len, vec_capacity}
use Rattle.feature_model.specs.Data.{change_data}
use Rattle.feature_store.specs.Prepared.{prepared_data}
use Rattle.feature_store.proofs.prepared.prepare_each.Given as goal

abbrev pub invariant-loop-change : goal.invariant-loop-change
invariant-loop-change l = record {
  len : vec_len l.prepared ≡ l.change-index;
  room : length l.changes ≤ vec_capacity l.prepared;
  read : map prepared_data l.prepared.items ≡ map change_data (take l.change-index l.changes);
}
