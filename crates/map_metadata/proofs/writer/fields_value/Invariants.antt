use Rattle.std.proofs.Common.{◌≡◌, ◌++◌}
use Rattle.serde_json.specs.View.{members_view}
use Rattle.map_metadata.specs.Metadata.{fields_json}
use Rattle.map_metadata.specs.Summaries.{fields_data}
use Rattle.map_metadata.proofs.writer.fields_value.Given as goal

abbrev pub invariant-loop-key : goal.invariant-loop-key
invariant-loop-key l = record {
  items : l.yielded ++ l.key-iterator ≡ l.fn.fields.entries;
  members : members_view l.members.entries ≡ fields_json (fields_data l.yielded);
}
