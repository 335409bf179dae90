use Rattle.std.proofs.Common.{[], ◌++◌, sym, ap, subst, ◌∙◌, append-nil, arith}
use Rattle.std.specs.Bool.{OnTrue}
use Rattle.std.specs.Ordering.{nat_cmp}
use Rattle.std.specs.BTreeMap.{insert_entry}
use Rattle.number_map.specs.Blocks.{Ascends, AreBelow, first_number}
use Rattle.number_map.proofs.Entries.{ascends_none, lowered, length_set_some}
use Rattle.number_map.proofs.Between.{ascends_left, ascends_right, set_before, set_after}
use Rattle.number_map.proofs.Filled.{IsFilled}
use Rattle.number_map.proofs.Home.{above_block, below_part}
use Rattle.number_map.proofs.blocks.halve.Goals as goal

-- the number is greater than all
pub add-requires-clause-ascending : goal.add-requires-clause-ascending
add-requires-clause-ascending g c = subst Ascends (sym c.requires.empty) ascends_none

pub returns-then-ends_before-clause-entries : goal.returns-then-ends_before-clause-entries
returns-then-ends_before-clause-entries g c =
    let lower = c.args.lower.now in
    let n = c.args.number in
    ap (λ es. lower ++ es) (c.add.ensures ∙ ap (λ es. insert_entry nat_cmp es n c.args.value) c.requires.empty)
    ∙ sym (set_after n c.args.value lower [] (subst (λ b. OnTrue b (AreBelow n lower)) c.if-ends_before.true c.ends_before.ensures))
    ∙ ap (λ es. insert_entry nat_cmp es n c.args.value) (append-nil lower)

pub add-requires-then-number-first-clause-ascending : goal.add-requires-then-number-first-clause-ascending
add-requires-then-number-first-clause-ascending g c =
    ascends_left c.split.new.self c.split.new.upper (subst Ascends c.split.ensures.entries c.requires.ascending)

pub add-requires-else-number-first-clause-ascending : goal.add-requires-else-number-first-clause-ascending
add-requires-else-number-first-clause-ascending g c =
    ascends_right c.split.new.self c.split.new.upper (subst Ascends c.split.ensures.entries c.requires.ascending)

-- the number goes to the lower half
pub returns-then-number-first-clause-entries : goal.returns-then-number-first-clause-entries
returns-then-number-first-clause-entries g c =
    let lower = c.split.new.self in
    let upper = c.split.new.upper in
    let n = c.args.number in
    let above = above_block n upper (omega (arith, c.if-number-first.true, c.first.ensures))
    (ascends_right lower upper (subst Ascends c.split.ensures.entries c.requires.ascending)) in
    ap (λ es. es ++ upper) c.add-then-number-first.ensures
    ∙ sym (set_before n c.args.value lower upper above)
    ∙ ap (λ es. insert_entry nat_cmp es n c.args.value) (sym c.split.ensures.entries)

pub returns-then-number-first-clause-lower_filled : goal.returns-then-number-first-clause-lower_filled
returns-then-number-first-clause-lower_filled g c =
    subst IsFilled (sym c.add-then-number-first.ensures) (length_set_some c.split.new.self c.args.number c.args.value)

-- the number goes to the upper half
pub returns-else-number-first-clause-entries : goal.returns-else-number-first-clause-entries
returns-else-number-first-clause-entries g c =
    let lower = c.split.new.self in
    let upper = c.split.new.upper in
    let n = c.args.number in
    let below = lowered lower n (first_number upper) (omega (arith, c.if-number-first.false, c.first.ensures))
    (below_part lower upper c.split.ensures.upper_half.0 (subst Ascends c.split.ensures.entries c.requires.ascending)) in
    ap (λ es. lower ++ es) c.add-else-number-first.ensures
    ∙ sym (set_after n c.args.value lower upper below)
    ∙ ap (λ es. insert_entry nat_cmp es n c.args.value) (sym c.split.ensures.entries)
