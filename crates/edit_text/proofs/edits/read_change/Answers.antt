use Rattle.std.proofs.Common.{map, inr, arith}
use Rattle.std.proofs.lemmas.Result.{err_from_is_err_and}
use Rattle.feature_model.specs.Data.{change_data}
use Rattle.edit_text.proofs.Codecs.{AreBytes}
use Rattle.edit_text.proofs.TrustedChanges.{read_types, read_trusted, checked_whole}
use Rattle.edit_text.proofs.edits.read_change.Goals as goal

pub to_change-requires : goal.to_change-requires
to_change-requires c =
    let are : AreBytes c.args.bytes.now = λ i. omega (arith, c.type_inv.bytes i) in
    read_types (map change_data c.args.changes.now) c.args.bytes.now c.in_ok-rest.rest.now are c.in_ok-rest.ensures

pub returns-in_err-change : goal.returns-in_err-change
returns-in_err-change c =
    let whole = checked_whole (map change_data c.args.changes.now) c.args.bytes.now c.in_ok-rest.rest.now c.in_ok-rest.ensures in
    let p = err_from_is_err_and c.from_residual-in_err-change.result c.from_residual-in_err-change.ensures.1 in
    rw (p.1) (inr (p.2, whole))

pub returns : goal.returns
returns c =
    read_trusted (map change_data c.args.changes.now) c.args.bytes.now c.in_ok-rest.rest.now (change_data c.in_ok-change.change)
    c.in_ok-rest.ensures c.in_ok-change.ensures
