use Rattle.std.proofs.Common.{List, ℕ, ◌++◌, length, length-drop, ap, ◌∙◌, arith}
use Rattle.std.specs.Rc.{rc_slice_items}
use Rattle.hex.specs.Hex.{encode_lower}
use Rattle.http_serve.proofs.SpellLemmas.{part_is, part_length, spelled_on}
use Rattle.http_serve.proofs.spellings.Spelling.spell.Goals as goal

pub returns-clause-bytes : goal.returns-clause-bytes
returns-clause-bytes c =
    let inside = c.self.inside in
    let old = c.args.text.now.items in
    spelled_on old c.put_digits.new.text.items (rc_slice_items inside.bytes) inside.spelled c.min-count.result
    (c.put_digits.ensures.items ∙ ap (λ (t : List ℕ). old ++ encode_lower t)
    (part_is c.as_slice.result.now (rc_slice_items inside.bytes) inside.spelled c.min-count.result c.as_slice.ensures.value))
    ∙ ap (λ (l : List ℕ). old ++ encode_lower l) c.self.view_is

pub returns-clause-some : goal.returns-clause-some
returns-clause-some c = λ room more.
    let inside = c.self.inside in
    let items = rc_slice_items inside.bytes in
    let count = c.min-count.result in
    omega (
      arith,
      room,
      more,
      c.put_digits.ensures.len,
      ap length (part_is c.as_slice.result.now items inside.spelled count c.as_slice.ensures.value),
      part_length items inside.spelled count (omega (arith, c.min-count.ensures, c.len-2.ensures)),
      c.min-count.ensures,
      c.capacity.ensures,
      c.len.ensures,
      c.len-2.ensures,
      ap length c.self.view_is,
      length-drop inside.spelled items,
    )
