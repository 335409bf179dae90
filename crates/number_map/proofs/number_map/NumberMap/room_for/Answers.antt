use Rattle.std.proofs.Common.{length, refl, sym, ap, subst, ◌∙◌, arith}
use Rattle.number_map.specs.Blocks.{joined, firsts_of, AreInOrder}
use Rattle.number_map.proofs.Places.{at_most, room_stays}
use Rattle.number_map.proofs.number_map.NumberMap.room_for.Goals as goal

pub returns-then-self-count-clause-missing : goal.returns-then-self-count-clause-missing
returns-then-self-count-clause-missing g c = rw (← c.self.view_is) (omega (arith, c.if-self-count.true))

-- ---- the list of first numbers has no room

pub invariant_of-self : goal.invariant_of-self
invariant_of-self g c = record {
  order = c.self.invariant.order;
  firsts = c.reserve.ensures.items ∙ c.self.invariant.firsts;
  count = c.self.invariant.count;
  spare = c.self.invariant.spare;
}

pub returns-in_err-reserve-clause-entries : goal.returns-in_err-reserve-clause-entries
returns-in_err-reserve-clause-entries g c = rw (← c.self.view_is) refl

pub returns-in_err-reserve-clause-kept : goal.returns-in_err-reserve-clause-kept
returns-in_err-reserve-clause-kept g c =
    rw (← c.self.view_is) (room_stays c.self.inside
    (record { firsts = c.reserve.new.self; blocks = c.self.inside.blocks; spare = c.self.inside.spare; len = c.self.inside.len })
    (record {
      spare = at_most refl;
      firsts_len = at_most c.reserve.ensures.len;
      firsts_capacity = c.reserve.ensures.capacity;
      len = at_most refl;
      capacity = at_most refl;
    })
    (at_most refl))

-- ---- the list of blocks has no room

pub invariant_of-self-in_err-reserve-2 : goal.invariant_of-self-in_err-reserve-2
invariant_of-self-in_err-reserve-2 g c =
    let same = sym c.reserve-2.ensures.items in
    record {
      order = subst AreInOrder same c.self.invariant.order;
      firsts = c.reserve.ensures.items ∙ c.self.invariant.firsts ∙ ap firsts_of same;
      count = c.self.invariant.count ∙ ap (λ bs. length (joined bs)) same;
      spare = c.self.invariant.spare;
    }

pub returns-in_err-reserve-2-clause-entries : goal.returns-in_err-reserve-2-clause-entries
returns-in_err-reserve-2-clause-entries g c = rw (← c.self.view_is, c.reserve-2.ensures.items) refl

pub returns-in_err-reserve-2-clause-kept : goal.returns-in_err-reserve-2-clause-kept
returns-in_err-reserve-2-clause-kept g c =
    rw (← c.self.view_is) (room_stays c.self.inside
    (record { firsts = c.reserve.new.self; blocks = c.reserve-2.new.self; spare = c.self.inside.spare; len = c.self.inside.len })
    (record {
      spare = at_most refl;
      firsts_len = at_most c.reserve.ensures.len;
      firsts_capacity = c.reserve.ensures.capacity;
      len = at_most c.reserve-2.ensures.len;
      capacity = c.reserve-2.ensures.capacity;
    })
    (at_most refl))

-- ---- both have room

pub add_empty-requires : goal.add_empty-requires
add_empty-requires g c = c.self.invariant.spare

pub invariant_of-self-2 : goal.invariant_of-self-2
invariant_of-self-2 g c =
    let same = sym c.reserve-2.ensures.items in
    record {
      order = subst AreInOrder same c.self.invariant.order;
      firsts = c.reserve.ensures.items ∙ c.self.invariant.firsts ∙ ap firsts_of same;
      count = c.self.invariant.count ∙ ap (λ bs. length (joined bs)) same;
      spare = c.add_empty.ensures.empty;
    }

pub returns-clause-entries : goal.returns-clause-entries
returns-clause-entries g c = rw (← c.self.view_is, c.reserve-2.ensures.items) refl

pub returns-clause-kept : goal.returns-clause-kept
returns-clause-kept g c =
    rw (← c.self.view_is) (room_stays c.self.inside
    (record { firsts = c.reserve.new.self; blocks = c.reserve-2.new.self; spare = c.add_empty.new.blocks; len = c.self.inside.len })
    (record {
      spare = c.add_empty.ensures.kept;
      firsts_len = at_most c.reserve.ensures.len;
      firsts_capacity = c.reserve.ensures.capacity;
      len = at_most c.reserve-2.ensures.len;
      capacity = c.reserve-2.ensures.capacity;
    })
    (at_most refl))
