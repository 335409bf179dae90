use Rattle.std.proofs.Common.{length, ap, arith}
use Rattle.number_map.proofs.block.Block.append.Goals as goal

pub unwrap-requires : goal.unwrap-requires
unwrap-requires g c =
    c.append.ensures.succeeds (omega (arith, c.self.invariant.capacity, ap length c.self.view_is, ap length c.other.view_is, c.requires))

pub invariant_of-self : goal.invariant_of-self
invariant_of-self g c = record {
  few = omega (arith, rw c.unwrap.ensures at c.append.ensures.len, ap length c.self.view_is, ap length c.other.view_is, c.requires);
  capacity = omega (arith, c.self.invariant.capacity, c.append.ensures.capacity);
}

pub returns : goal.returns
returns g c = rw (← c.self.view_is, ← c.other.view_is) (rw c.unwrap.ensures at c.append.ensures.items)
