use Rattle.std.proofs.Common.{◌≡◌, arith, ap, sym, ◌∙◌}
use Rattle.std.proofs.lemmas.Grind.{common_steps}
use Rattle.pb_wire.specs.declared.fault.FaultKind.TheVariants.{Cut, Varint}
use Rattle.pb_wire.specs.Varint.{varint_at}
use Rattle.pb_wire.specs.Fault.{with_offset}
use Rattle.pb_wire.proofs.VarintLaws.{spelling_is_found, cut_is, is_cut, overlong_is, is_overlong}
use Rattle.pb_wire.proofs.Offsets.{offset_found, offset_kind}
use Rattle.pb_wire.proofs.varint.get_varint.Goals as goal

-- what is answered, with its offset
exact : (c : goal.After-map_err) → c.map_err.result ≡ with_offset 0 (varint_at c.args.bytes.now)
exact c = grind (arith, common_steps)

pub returns-clause-found : goal.returns-clause-found
returns-clause-found c = rw (exact c) (offset_found c.args.bytes.now)

pub returns-clause-only : goal.returns-clause-only
returns-clause-only c = λ front rest n h e. (exact c) ∙ ap (with_offset 0) (ap varint_at e ∙ spelling_is_found front rest n h)

pub returns-clause-cut : goal.returns-clause-cut
returns-clause-cut c = (
  λ e. cut_is c.args.bytes.now (offset_kind (varint_at c.args.bytes.now) Cut (sym (exact c) ∙ e)),
  λ h. (exact c) ∙ ap (with_offset 0) (is_cut c.args.bytes.now h),
)

pub returns-clause-overlong : goal.returns-clause-overlong
returns-clause-overlong c = (
  λ e. overlong_is c.args.bytes.now (offset_kind (varint_at c.args.bytes.now) Varint (sym (exact c) ∙ e)),
  λ h. (exact c) ∙ ap (with_offset 0) (is_overlong c.args.bytes.now h),
)
