use Rattle.std.proofs.Common.{◌≡◌, Ok, Err, refl, ap, rules, arith}
use Rattle.edit_text.proofs.Codecs.{AreBytes}
use Rattle.edit_text.proofs.CheckedChanges.{checked_room, checked_found, checked_only, checked_not_cut}
use Rattle.edit_text.proofs.CheckedChanges.{fault_no_text, fault_cut, fault_memory, fault_bad}
use Rattle.edit_text.proofs.checking.check_change.Goals as goal

pub returns-in_err-rest-clause-only : goal.returns-in_err-rest-clause-only
returns-in_err-rest-clause-only c = λ d begins.
    let same : c.from_residual.result ≡ Err c.in_err-rest.field-0.0 = search rules in
    absurd (fault_no_text c.args.bytes.now c.in_err-rest.field-0.0 c.from_residual.result same c.in_err-rest.ensures d begins)

pub returns-in_err-rest-clause-cut : goal.returns-in_err-rest-clause-cut
returns-in_err-rest-clause-cut c =
    let same : c.from_residual.result ≡ Err c.in_err-rest.field-0.0 = search rules in
    let bytes : AreBytes c.args.bytes.now = λ i. omega (arith, c.type_inv.bytes i) in
    fault_cut c.args.bytes.now c.in_err-rest.field-0.0 c.from_residual.result same c.in_err-rest.ensures bytes

pub returns-in_err-rest-clause-memory : goal.returns-in_err-rest-clause-memory
returns-in_err-rest-clause-memory c =
    let same : c.from_residual.result ≡ Err c.in_err-rest.field-0.0 = search rules in
    fault_memory c.args.bytes.now c.in_err-rest.field-0.0 c.from_residual.result same c.in_err-rest.ensures

pub returns-in_err-rest-clause-bad : goal.returns-in_err-rest-clause-bad
returns-in_err-rest-clause-bad c =
    let same : c.from_residual.result ≡ Err c.in_err-rest.field-0.0 = search rules in
    fault_bad c.args.bytes.now c.in_err-rest.field-0.0 c.from_residual.result same c.in_err-rest.ensures

pub overflow_sub-result : goal.overflow_sub-result
overflow_sub-result c =
    let bytes : AreBytes c.args.bytes.now = λ i. omega (arith, c.type_inv.bytes i) in
    omega (arith, checked_room c.args.bytes.now c.in_ok-rest.rest.now bytes c.in_ok-rest.ensures, c.min.ensures)

pub returns-clause-found : goal.returns-clause-found
returns-clause-found c =
    let bytes : AreBytes c.args.bytes.now = λ i. omega (arith, c.type_inv.bytes i) in
    checked_found c.args.bytes.now c.in_ok-rest.rest.now bytes c.in_ok-rest.ensures c.min.result _ c.min.ensures refl

pub returns-clause-only : goal.returns-clause-only
returns-clause-only c = λ d begins.
    let bytes : AreBytes c.args.bytes.now = λ i. omega (arith, c.type_inv.bytes i) in
    ap (λ n. Ok n) (checked_only c.args.bytes.now c.in_ok-rest.rest.now bytes c.in_ok-rest.ensures c.min.result _ c.min.ensures refl d begins)

pub returns-clause-cut : goal.returns-clause-cut
returns-clause-cut c =
    let bytes : AreBytes c.args.bytes.now = λ i. omega (arith, c.type_inv.bytes i) in
    (λ is. absurd (cc), λ cut. absurd (checked_not_cut c.args.bytes.now c.in_ok-rest.rest.now bytes c.in_ok-rest.ensures cut))
