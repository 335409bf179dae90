use Rattle.std.proofs.Common.{inr, refl, map}
use Rattle.std.proofs.lemmas.Bool.{false≢true}
use Rattle.feature_store.specs.Prepared.{prepared_data}
use Rattle.feature_store.proofs.RecordTexts.{none_new}
use Rattle.feature_store.proofs.records.read_next.Goals as goal

pub returns-clause-fault : goal.returns-clause-fault
returns-clause-fault c =
    let twice = rw c.number.ensures at c.if-is_new.ensures.1 in
    inr (
      refl,
      none_new (map prepared_data c.args.before.now) (prepared_data c.in-Ok.read.0) c.in-Ok.read.1.now c.args.text.now c.in-Ok.ensures.change
          c.in-Ok.ensures.text (λ new. false≢true (twice new)),
    )
