use Rattle.std.proofs.Common.{map, refl}
use Rattle.std.proofs.lemmas.Bool.{false≢true}
use Rattle.feature_store.specs.Prepared.{prepared_data}
use Rattle.feature_store.proofs.RecordTexts.{has_parts, record_found}
use Rattle.feature_store.proofs.records.read_record.Goals as goal

pub returns-then-fits-clause-found : goal.returns-then-fits-clause-found
returns-then-fits-clause-found c =
    let fits = c.if-fits.ensures.0 refl in
    record_found (λ v. map prepared_data v.items) c.read_changes.result c.args.version c.in-Some.parts.0 c.in-Some.parts.1.now c.args.text.now
    c.in-Some.ensures.counted fits.0 fits.1 c.read_changes.ensures.found

pub returns-then-fits-clause-only : goal.returns-then-fits-clause-only
returns-then-fits-clause-only c = λ cs is.
    c.read_changes.ensures.only cs (has_parts c.args.version c.in-Some.parts.0 cs c.in-Some.parts.1.now c.args.text.now c.in-Some.ensures.counted is).0

pub returns-clause-only : goal.returns-clause-only
returns-clause-only c = λ cs is.
    let parts = has_parts c.args.version c.in-Some.parts.0 cs c.in-Some.parts.1.now c.args.text.now c.in-Some.ensures.counted is in
    absurd (false≢true (c.if-fits.ensures.1 (parts.1, parts.2)))
