-- How a map keeps its entries in blocks.
use Rattle.std.specs.Prelude.{◌≡◌, ◌-◌, ◌^◌, [], All, length, min, vec_len, vec_capacity}
use Rattle.number_map.specs.declared.number_map.NumberMap.TheInside.{Inside}
use Rattle.number_map.specs.Blocks.{joined, firsts_of, AreInOrder}
use Rattle.number_map.specs.MapView.{MapView}

module _ {T : Type 0} where
  -- the entries of its blocks; how many blocks more it has and has room for, and how many entries more a count can tell
  abbrev pub map_view : Inside T → MapView T
  map_view m = record {
    entries = joined m.blocks.items;
    spare =
        min (min (vec_len m.spare) (min (vec_capacity m.firsts - vec_len m.firsts) (vec_capacity m.blocks - vec_len m.blocks)))
        (2 ^ 64 - 1 - m.len);
  }

  -- the blocks are in order, their first numbers are those of `firsts`, `len` counts their entries, and the spare blocks have none
  pub record IsNumberMap (m : Inside T) : Type 0 where
    pub order : AreInOrder m.blocks.items
    pub firsts : m.firsts.items ≡ firsts_of m.blocks.items
    pub count : m.len ≡ length (joined m.blocks.items)
    pub spare : All (λ b. b ≡ []) m.spare.items
