use Rattle.std.proofs.Common.{◌≡◌, ◌-◌, length, sym, ap, ◌∙◌, arith}
use Rattle.std.proofs.lemmas.List.{take-append-drop, length-take-le, length-drop}
use Rattle.number_map.proofs.block.Block.split.Goals as goal

pub returns-clause-entries : goal.returns-clause-entries
returns-clause-entries g c =
    rw (← c.self.view_is, c.move_from.ensures.front, c.move_from.ensures.end) (sym (take-append-drop 64 c.self.inside.entries.items))

pub returns-clause-lower_half : goal.returns-clause-lower_half
returns-clause-lower_half g c =
    let full = ap length c.self.view_is in
    let count : length c.move_from.new.entries.items ≡ 64 =
    ap length c.move_from.ensures.front ∙ length-take-le 64 c.self.inside.entries.items (omega (arith, full, c.requires.full)) in
    (omega (arith, count), omega (arith, count))

pub returns-clause-upper_half : goal.returns-clause-upper_half
returns-clause-upper_half g c =
    let full = ap length c.self.view_is in
    let few = c.self.invariant.few in
    let ok = c.self.inside.entries.ok.0 in
    let count : length c.move_from.new.end.items ≡ length c.self.inside.entries.items - 64 =
    ap length c.move_from.ensures.end ∙ length-drop 64 c.self.inside.entries.items in
    (omega (arith, count, full, c.requires.full), omega (arith, count, few, ok))

pub invariant_of-self : goal.invariant_of-self
invariant_of-self g c =
    let full = ap length c.self.view_is in
    let count : length c.move_from.new.entries.items ≡ 64 =
    ap length c.move_from.ensures.front ∙ length-take-le 64 c.self.inside.entries.items (omega (arith, full, c.requires.full)) in
    record {
      few = omega (arith, count, c.move_from.new.entries.ok.0);
      capacity = omega (arith, c.move_from.ensures.front_capacity, c.self.invariant.capacity);
    }

pub invariant_of-upper : goal.invariant_of-upper
invariant_of-upper g c =
    let few = c.self.invariant.few in
    let ok = c.self.inside.entries.ok.0 in
    let count : length c.move_from.new.end.items ≡ length c.self.inside.entries.items - 64 =
    ap length c.move_from.ensures.end ∙ length-drop 64 c.self.inside.entries.items in
    record {
      few = omega (arith, count, few, ok, c.move_from.new.end.ok.0);
      capacity = omega (arith, c.move_from.ensures.end_capacity, c.upper.invariant.capacity);
    }
