use Rattle.std.proofs.Common.{rules}
use Rattle.edit_json.specs.Json.{name_bytes}
use Rattle.edit_json.proofs.outline.read_shape.Goals as goal

pub returns-in_default : goal.returns-in_default
unfolding name_bytes
returns-in_default c = search rules
