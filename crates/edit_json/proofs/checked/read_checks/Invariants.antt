use Rattle.std.proofs.Common.{◌≡◌, map, take, All}
use Rattle.serde_json.specs.View.{view}
use Rattle.edit_json.specs.Checked.{checked_data, checked_json, HasCheckedMembers}
use Rattle.edit_json.proofs.checked.read_checks.Given as goal

abbrev pub invariant-loop-value : goal.invariant-loop-value
invariant-loop-value l = record {
  found : map view (take l.value-index l.list) ≡ map checked_json (map checked_data l.all.items);
  members : All HasCheckedMembers (map checked_data l.all.items);
}
