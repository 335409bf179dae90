use Rattle.std.proofs.Common.{◌≤◌, ◌≡◌, map, take, length}
use Rattle.std.specs.Prelude.{vec_len, vec_capacity}
use Rattle.feature_model.specs.Seen.{seen_data}
use Rattle.edit_json.specs.Checked.{checked_data, Were}
use Rattle.edit_json.proofs.checked.read_were.Given as goal

abbrev pub invariant-loop-checked : goal.invariant-loop-checked
invariant-loop-checked l = record {
  len : vec_len l.seen ≡ l.checked-index;
  room : length l.all ≤ vec_capacity l.seen;
  read : Were (map checked_data (take l.checked-index l.all)) (map seen_data l.seen.items);
}
