use Rattle.std.proofs.Common.{ℕ, ◌≤◌, length}
use Rattle.std.specs.Prelude.{◌↔◌}
use Rattle.feature_store.specs.Snapshots.{IsBehind}
use Rattle.feature_store.proofs.Snapshots.{IsRead}
use Rattle.feature_store.proofs.snapshot_texts.read_map.Given as goal

abbrev pub invariant-loop-rest : goal.invariant-loop-rest
invariant-loop-rest l = record {
  read : IsRead l.store.features l.rest l.text;
  end : (id : ℕ) → (l.end ≤ id) ↔ IsBehind l.store.features id;
}

abbrev pub decreases-loop-rest : goal.decreases-loop-rest
decreases-loop-rest l = length l.rest
