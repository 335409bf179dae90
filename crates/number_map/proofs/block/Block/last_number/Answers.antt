use Rattle.std.proofs.Common.{◌-◌, length, sym, ap, arith}
use Rattle.number_map.specs.Blocks.{last_number}
use Rattle.number_map.proofs.Last.{last_entry, is_nothing}
use Rattle.number_map.proofs.block.Block.last_number.Goals as goal

pub returns-in-Some : goal.returns-in-Some
returns-in-Some g c =
    let there = c.in-Some.ensures.item in
    rw (← c.self.view_is, ← c.deref.ensures.value)
    (last_entry c.deref.result.now (length c.deref.result.now - 1) c.in-Some.entry.now (omega (arith, there.3.0)) there.1)

pub returns-in-None : goal.returns-in-None
returns-in-None g c =
    rw (← c.self.view_is, ← c.deref.ensures.value) (ap last_number (sym (is_nothing c.deref.result.now c.in-None.ensures.item.3)))
