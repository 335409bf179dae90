use Rattle.std.proofs.Common.{◌++◌, [], ◌∷◌, length, ap, ◌∙◌, arith}
use Rattle.box_index.proofs.Keyed.{entries_of, in_halves, halves_len}
use Rattle.box_index.proofs.halves.write_halves.Goals as goal

pub append-requires-2 : goal.append-requires-2
append-requires-2 c =
    let parts = c.select_nth_unstable_by_key-front.result in
    let both = halves_len c.args.keyed.now parts.0.now parts.2.now parts.1.now c.select_nth_unstable_by_key-front.ensures.permutation in
    let pushed = rw c.unwrap.ensures at c.push.ensures.len in
    omega (arith, both, pushed, ap length c.requires.empty.1, c.args.upper.now.ok.0, c.push.ensures.capacity, c.requires.room.1)

pub returns-clause-entries : goal.returns-clause-entries
returns-clause-entries c =
    let parts = c.select_nth_unstable_by_key-front.result in
    let pushed = rw c.unwrap.ensures at c.push.ensures.items in
    in_halves c.args.keyed.now parts.0.now parts.2.now parts.1.now c.append.new.entries.items c.append-2.new.entries.items
    c.select_nth_unstable_by_key-front.ensures.permutation
    (c.append.ensures.items ∙ ap (λ es. es ++ entries_of parts.0.now) c.requires.empty.0)
    (c.append-2.ensures.items ∙ ap (λ es. es ++ entries_of parts.2.now) (pushed ∙ ap (λ es. es ++ parts.1.now.1 ∷ []) c.requires.empty.1))

pub returns-clause-both : goal.returns-clause-both
returns-clause-both c =
    let parts = c.select_nth_unstable_by_key-front.result in
    let both = halves_len c.args.keyed.now parts.0.now parts.2.now parts.1.now c.select_nth_unstable_by_key-front.ensures.permutation in
    let pushed = rw c.unwrap.ensures at c.push.ensures.len in
    omega (
      arith,
      both,
      pushed,
      c.append.ensures.len,
      c.append-2.ensures.len,
      ap length c.requires.empty.0,
      ap length c.requires.empty.1,
      c.args.lower.now.ok.0,
      c.args.upper.now.ok.0,
    )
