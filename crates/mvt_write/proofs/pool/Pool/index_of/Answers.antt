use Rattle.std.proofs.Common.{◌≡◌, ◌∙◌, ◌-◌, get_or, sym, ap, refl, arith}
use Rattle.std.specs.Prelude.{Some, slice_index}
use Rattle.mvt_write.specs.Codes.{text_code}
use Rattle.mvt_write.specs.Entries.{entries_of}
use Rattle.mvt_write.specs.Slots.{place_of, slot_index, code_index, bytes_index, led, named}
use Rattle.mvt_write.proofs.Pooled.{with_held}
use Rattle.mvt_write.proofs.Slotted.{first_held, is_other, named_at}
use Rattle.mvt_write.proofs.pool.Pool.index_of.Goals as goal

pub is_at-requires : goal.is_at-requires
is_at-requires c =
    let before = c.args.self.now in
    let entry = c.args.entry.now in
    let number = get_or c.deref.result.now c.place_of-place.result 0 in
    let own : slice_index before.slots.value (place_of (text_code entry)) ≡ number =
    rw (c.deref.ensures, c.place_of-place.ensures.place, c.text_code-code.ensures) refl in
    let is : slot_index before.slots.value entry ≡ Some (number - 1) = ap named own ∙ named_at number (λ e. omega (arith, e, c.if-number-eq0.false)) in
    before.first entry (number - 1) is

pub returns-then-is_at-clause-index : goal.returns-then-is_at-clause-index
returns-then-is_at-clause-index c =
    let before = c.args.self.now in
    let entry = c.args.entry.now in
    let pool = entries_of before.entries in
    let number = get_or c.deref.result.now c.place_of-place.result 0 in
    let own : slice_index before.slots.value (place_of (text_code entry)) ≡ number =
    rw (c.deref.ensures, c.place_of-place.ensures.place, c.text_code-code.ensures) refl in
    let is : slot_index before.slots.value entry ≡ Some (number - 1) = ap named own ∙ named_at number (λ e. omega (arith, e, c.if-number-eq0.false)) in
    (first_held pool (slot_index before.slots.value entry) (led pool (code_index before.codes entry) entry (bytes_index before.others entry)) entry
    (number - 1) is (sym c.is_at.ensures ∙ c.if-is_at.true) (before.looked entry)).0

pub returns-then-is_at-clause-entries : goal.returns-then-is_at-clause-entries
returns-then-is_at-clause-entries c =
    let before = c.args.self.now in
    let entry = c.args.entry.now in
    let pool = entries_of before.entries in
    let number = get_or c.deref.result.now c.place_of-place.result 0 in
    let own : slice_index before.slots.value (place_of (text_code entry)) ≡ number =
    rw (c.deref.ensures, c.place_of-place.ensures.place, c.text_code-code.ensures) refl in
    let is : slot_index before.slots.value entry ≡ Some (number - 1) = ap named own ∙ named_at number (λ e. omega (arith, e, c.if-number-eq0.false)) in
    let held = first_held pool (slot_index before.slots.value entry) (led pool (code_index before.codes entry) entry (bytes_index before.others entry)) entry
    (number - 1) is (sym c.is_at.ensures ∙ c.if-is_at.true) (before.looked entry) in
    sym (with_held pool entry held.1)

pub index_by_code-requires-clause-slot : goal.index_by_code-requires-clause-slot
index_by_code-requires-clause-slot c =
    let before = c.args.self.now in
    let entry = c.args.entry.now in
    let number = get_or c.deref.result.now c.place_of-place.result 0 in
    let own : slice_index before.slots.value (place_of (text_code entry)) ≡ number =
    rw (c.deref.ensures, c.place_of-place.ensures.place, c.text_code-code.ensures) refl in
    let is : slot_index before.slots.value entry ≡ Some (number - 1) = ap named own ∙ named_at number (λ e. omega (arith, e, c.if-number-eq0.false)) in
    is_other (entries_of before.entries) (slot_index before.slots.value entry) entry (number - 1) is (sym c.is_at.ensures ∙ c.if-is_at.false)
