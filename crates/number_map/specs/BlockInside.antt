-- How a block keeps its entries.
use Rattle.std.specs.Prelude.{◌≤◌, vec_len, vec_capacity}
use Rattle.number_map.specs.declared.block.TheConstants.{CAPACITY}
use Rattle.number_map.specs.declared.block.Block.TheInside.{Inside}

-- there is memory for the most entries of a block
pub record IsBlock {T : Type 0} (b : Inside T) : Type 0 where
  pub few : vec_len b.entries ≤ CAPACITY
  pub capacity : CAPACITY ≤ vec_capacity b.entries
