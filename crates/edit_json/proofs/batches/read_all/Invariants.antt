use Rattle.std.proofs.Common.{◌≡◌, map, take, All}
use Rattle.serde_json.specs.View.{view}
use Rattle.edit_json.specs.Asked.{asked_data}
use Rattle.edit_json.specs.Batches.{asked_json, HasMembers}
use Rattle.edit_json.proofs.batches.read_all.Given as goal

abbrev pub invariant-loop-value : goal.invariant-loop-value
invariant-loop-value l = record {
  found : map view (take l.value-index l.list) ≡ map asked_json (map asked_data l.all.items);
  members : All HasMembers (map asked_data l.all.items);
}
