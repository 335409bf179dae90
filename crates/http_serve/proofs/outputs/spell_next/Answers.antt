use Rattle.std.proofs.Common.{List, ℕ, ◌++◌, ◌-◌, ◌/◌, length, length-drop, ap, ◌∙◌, arith}
use Rattle.hex.specs.Hex.{encode_lower}
use Rattle.http_serve.proofs.SpellLemmas.{digits_length, spelled_behind, spelled_lengths}
use Rattle.http_serve.proofs.outputs.spell_next.Goals as goal

pub skip-requires : goal.skip-requires
skip-requires c = omega (
  arith,
  c.requires.within,
  digits_length c.args.spelling.now,
  c.len.ensures,
  c.len-2.ensures,
  c.if-taken-len.false,
)

pub returns-clause-waiting : goal.returns-clause-waiting
returns-clause-waiting c =
    spelled_behind c.args.taken _ c.args.front.now.items c.spell.new.text.items c.args.spelling.now c.skip.new.self c.spell.new.self
    (omega (arith, c.len.ensures, c.if-taken-len.false, c.args.front.now.ok.0)) (omega (arith, c.len-2.ensures, c.args.front.now.ok.0))
    c.skip.ensures
    (c.spell.ensures.bytes ∙ ap (λ (t : List ℕ). t ++ encode_lower c.skip.new.self) c.clear.ensures.items)

pub returns-clause-within : goal.returns-clause-within
returns-clause-within c =
    let spelled = c.spell.ensures.bytes ∙ ap (λ (t : List ℕ). t ++ encode_lower c.skip.new.self) c.clear.ensures.items in
    omega (
      arith,
      spelled_lengths c.spell.new.text.items c.skip.new.self c.spell.new.self spelled,
      digits_length c.spell.new.self,
      digits_length c.args.spelling.now,
      ap length c.skip.ensures,
      length-drop ((c.args.taken - c.len-2.result) / 2) c.args.spelling.now,
      c.requires.within,
      c.len-2.ensures,
      c.spell.new.text.ok.0,
    )

pub returns-clause-ahead : goal.returns-clause-ahead
returns-clause-ahead c = λ more.
    let spelled = c.spell.ensures.bytes ∙ ap (λ (t : List ℕ). t ++ encode_lower c.skip.new.self) c.clear.ensures.items in
    let lengths = spelled_lengths c.spell.new.text.items c.skip.new.self c.spell.new.self spelled in
    let left = length-drop ((c.args.taken - c.len-2.result) / 2) c.args.spelling.now in
    let room = c.requires.room (omega (arith, more, lengths, ap length c.skip.ensures, left)) in
    let longer = c.spell.ensures.some (omega (arith, room, c.clear.ensures.len, c.clear.ensures.capacity))
    (omega (arith, more, lengths)) in
    (omega (arith, longer), omega (arith, room, c.clear.ensures.capacity, c.spell.ensures.capacity))
