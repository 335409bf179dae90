use Rattle.std.proofs.Common.{◌≡◌, ◌∙◌, sym, ap}
use Rattle.std.specs.Prelude.{Some}
use Rattle.std.specs.Option.{option_copied}
use Rattle.mvt_write.specs.Entries.{entries_of}
use Rattle.mvt_write.specs.Pools.{index_in}
use Rattle.mvt_write.specs.Slots.{slot_index, code_index, bytes_index}
use Rattle.mvt_write.proofs.Pooled.{with_held}
use Rattle.mvt_write.proofs.Slotted.{held_if_some, others_tell}
use Rattle.mvt_write.proofs.pool.Pool.index_by_bytes.Goals as goal

pub returns-in-Some-clause-index : goal.returns-in-Some-clause-index
returns-in-Some-clause-index c =
    let before = c.args.self.now in
    let pool = entries_of before.entries in
    let entry = c.args.entry.now in
    let told : bytes_index before.others entry ≡ index_in pool entry = others_tell pool (slot_index before.slots.value entry) (code_index before.codes entry)
    (bytes_index before.others entry) entry c.requires.slot c.requires.code (before.looked entry) in
    let is : Some c.in-Some.index.now ≡ bytes_index before.others entry = sym (ap option_copied c.in-Some.is) ∙ c.get.ensures.value in
    (held_if_some pool entry c.in-Some.index.now (is ∙ told)).0

pub returns-in-Some-clause-entries : goal.returns-in-Some-clause-entries
returns-in-Some-clause-entries c =
    let before = c.args.self.now in
    let pool = entries_of before.entries in
    let entry = c.args.entry.now in
    let told : bytes_index before.others entry ≡ index_in pool entry = others_tell pool (slot_index before.slots.value entry) (code_index before.codes entry)
    (bytes_index before.others entry) entry c.requires.slot c.requires.code (before.looked entry) in
    let is : Some c.in-Some.index.now ≡ bytes_index before.others entry = sym (ap option_copied c.in-Some.is) ∙ c.get.ensures.value in
    sym (with_held pool entry (held_if_some pool entry c.in-Some.index.now (is ∙ told)).1)
