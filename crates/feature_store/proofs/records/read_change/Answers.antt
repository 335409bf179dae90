use Rattle.feature_store.proofs.RecordTexts.{told_of, no_put, begins_so, neither}
use Rattle.std.proofs.lemmas.Bool.{false≢true}
use Rattle.std.proofs.Common.{refl}
use Rattle.feature_store.proofs.records.read_change.Goals as goal

pub returns-then-is_deletion-clause-fault : goal.returns-then-is_deletion-clause-fault
returns-then-is_deletion-clause-fault c =
    told_of c.read_deletion.result _ _ (neither c.args.text.now (λ id f. no_put id f c.args.text.now (c.if-is_deletion.ensures.0 refl)))
    c.read_deletion.ensures.fault

pub returns-clause-fault : goal.returns-clause-fault
returns-clause-fault c =
    told_of c.read_put.result _ _
    (λ puts. neither c.args.text.now puts (λ id begins. false≢true (c.if-is_deletion.ensures.1 (begins_so id c.args.text.now begins))))
    c.read_put.ensures.fault
