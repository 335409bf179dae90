use Rattle.std.proofs.Common.{◌≡◌, map, take}
use Rattle.edit_json.specs.Asked.{asked_data}
use Rattle.edit_json.specs.Checked.{checked_data, plain}
use Rattle.edit_json.proofs.checked.read_plain.Given as goal

abbrev pub invariant-loop-checked : goal.invariant-loop-checked
invariant-loop-checked l = map asked_data l.asked.items ≡ plain (map checked_data (take l.checked-index l.all))
