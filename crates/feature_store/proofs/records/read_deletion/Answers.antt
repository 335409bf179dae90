use Rattle.std.proofs.lemmas.Grind.{common_steps}
use Rattle.std.proofs.Common.{inr, refl, arith}
use Rattle.feature_model.specs.Data.{delete}
use Rattle.edit_text.proofs.Faults.{cut_is_not_memory, bad_is_not_memory}
use Rattle.feature_store.proofs.RecordTexts.{put_apart}
use Rattle.feature_store.proofs.records.read_deletion.Goals as goal

pub returns-in-Ok-Put-default-clause-fault : goal.returns-in-Ok-Put-default-clause-fault
returns-in-Ok-Put-default-clause-fault c =
    inr (refl, λ id begins. absurd (put_apart _ _ id (rw c.in-Ok-Put-default.field-0-0-is at (c.in-Ok-Put-default.ensures.only (delete id) begins))))

pub returns-in-Err-Cut-clause-fault : goal.returns-in-Err-Cut-clause-fault
returns-in-Err-Cut-clause-fault c = inr (refl, λ id begins. cut_is_not_memory (rw c.in-Err-Cut.field-0-is at (c.in-Err-Cut.ensures.only (delete id) begins)))

pub returns-in-Err-Bad-clause-fault : goal.returns-in-Err-Bad-clause-fault
returns-in-Err-Bad-clause-fault c = inr (refl, λ id begins. bad_is_not_memory (rw c.in-Err-Bad.field-0-is at (c.in-Err-Bad.ensures.only (delete id) begins)))

pub slice_bounds-result-count : goal.slice_bounds-result-count
slice_bounds-result-count c = grind (arith, common_steps)

pub slice_bounds-result-start : goal.slice_bounds-result-start
slice_bounds-result-start c = grind (arith, common_steps)

pub returns-in-Ok-Delete-default-clause-text : goal.returns-in-Ok-Delete-default-clause-text
returns-in-Ok-Delete-default-clause-text c = grind (arith, common_steps)
