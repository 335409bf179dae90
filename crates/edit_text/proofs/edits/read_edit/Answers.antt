use Rattle.std.proofs.Common.{arith}
use Rattle.std.proofs.lemmas.Result.{err_from_is_err_and}
use Rattle.edit_text.specs.declared.fault.TextFault.TheVariants.{Memory}
use Rattle.reader.proofs.Steps.{passed_never}
use Rattle.edit_text.proofs.Codecs.{AreBytes}
use Rattle.edit_text.proofs.EditCodecs.{codec_count}
use Rattle.edit_text.proofs.Faults.{count_no_memory}
use Rattle.edit_text.proofs.edits.read_edit.Goals as goal

pub returns-in_err-count-clause-memory : goal.returns-in_err-count-clause-memory
returns-in_err-count-clause-memory c =
    let p = err_from_is_err_and c.from_residual.result c.from_residual.ensures.1 in
    λ out. absurd (passed_never Memory _ _ p.0 _ (count_no_memory _) c.in_err-count.ensures p.1 p.2 out)

pub returns-in_err-changes-clause-memory : goal.returns-in_err-changes-clause-memory
returns-in_err-changes-clause-memory c = λ _.
    let bytes : AreBytes c.args.bytes.now = λ i. omega (arith, c.type_inv.bytes i) in
    let found = codec_count.found c.args.bytes.now c.in_ok-count.count c.in_ok-count.rest.now bytes c.in_ok-count.ensures in
    (c.in_ok-count.count, c.in_ok-count.rest.now, found.1, found.0)
