use Rattle.std.proofs.Common.{◌≤◌, ◌≡◌, map, take, All, length}
use Rattle.std.specs.Prelude.{vec_len, vec_capacity}
use Rattle.feature_model.specs.Data.{change_data}
use Rattle.feature_model.specs.Types.{ChangeFitsTypes}
use Rattle.edit_json.specs.Asked.{asked_data}
use Rattle.edit_json.specs.Batches.{asked_of, IsJsonChange}
use Rattle.edit_json.proofs.batches.read_changes.Given as goal

abbrev pub invariant-loop-asked : goal.invariant-loop-asked
invariant-loop-asked l = record {
  len : vec_len l.changes ≡ l.asked-index;
  room : length l.all ≤ vec_capacity l.changes;
  asked : map asked_data (take l.asked-index l.all) ≡ map asked_of (map change_data l.changes.items);
  are : All IsJsonChange (map change_data l.changes.items);
  types : All ChangeFitsTypes (map change_data l.changes.items);
}
