-- What the pools of a layer hold, as it is written.
use Rattle.std.specs.Prelude.{ℕ, List}
use Rattle.mvt_write.specs.declared.pool.Pool.{Pool}
use Rattle.mvt_write.specs.declared.tag_pools.TagPools.{TagPools}
use Rattle.mvt_write.specs.Entries.{entries_of}

-- the entries of a pool
abbrev pub held : Pool → List (List ℕ)
held pool = entries_of pool.entries

abbrev pub held_keys : TagPools → List (List ℕ)
held_keys pools = held pools.keys

abbrev pub held_values : TagPools → List (List ℕ)
held_values pools = held pools.values
