use Rattle.std.proofs.Common.{◌↔◌, map, All}
use Rattle.std.specs.Prelude.{string_bytes}
use Rattle.serde_json.specs.View.{members_view}
use Rattle.feature_model.specs.Limits.{IsName}
use Rattle.edit_json.specs.Faults.{names_of}
use Rattle.edit_json.proofs.tags.keys_fit.Given as goal

abbrev pub invariant-loop-key : goal.invariant-loop-key
invariant-loop-key l = All IsName (map (λ k. string_bytes k) l.key-iterator) ↔ All IsName (names_of (members_view l.tags.entries))
