use Rattle.std.proofs.Common.{arith}
use Rattle.std.proofs.lemmas.Grind.{common_steps}
use Rattle.feature_store.proofs.Snapshots.{not_decoded, text_behind, text_within}
use Rattle.feature_store.proofs.snapshot_texts.read_entry.Goals as goal

pub returns-in-Err-clause-fault : goal.returns-in-Err-clause-fault
returns-in-Err-clause-fault c =
    not_decoded c.in-Err.fault _ c.to_snapshot_fault.result c.args.text.now
    c.to_snapshot_fault.ensures.either c.to_snapshot_fault.ensures.memory.1 (λ e. c.in-Err.ensures.only e.0 e.1)

pub slice_bounds-result-count : goal.slice_bounds-result-count
slice_bounds-result-count c = grind (arith, common_steps, text_behind, text_within)

pub slice_bounds-result-start : goal.slice_bounds-result-start
slice_bounds-result-start c = grind (arith, common_steps, text_behind, text_within)

pub returns-in-Ok-clause-text : goal.returns-in-Ok-clause-text
returns-in-Ok-clause-text c = grind (arith, common_steps, text_behind, text_within)
