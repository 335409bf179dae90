use Rattle.std.proofs.Common.{◌≡◌, length, map, take}
use Rattle.feature_model.specs.Spelled.{spelled_changes}
use Rattle.feature_store.specs.Prepared.{prepared_data}
use Rattle.feature_store.proofs.records.texts_len.Given as goal

abbrev pub invariant-loop-change : goal.invariant-loop-change
invariant-loop-change l = l.len ≡ length (spelled_changes (map prepared_data (take l.change-index l.changes)))
