-- The number of each limit.
use Rattle.std.proofs.Common.{◌≡◌, refl}
use Rattle.pm_archive.specs.declared.limits.TheConstants.{OPENING_END, MAX_LEAF_LEVELS, MAX_CACHED_LEAF_BYTES, MAX_CACHED_BYTES}

pub opening_end_is : OPENING_END ≡ 16384
opening_end_is = refl

pub max_leaf_levels_is : MAX_LEAF_LEVELS ≡ 3
max_leaf_levels_is = refl

pub max_cached_leaf_bytes_is : MAX_CACHED_LEAF_BYTES ≡ 65536
max_cached_leaf_bytes_is = refl

pub max_cached_bytes_is : MAX_CACHED_BYTES ≡ 1048576
max_cached_bytes_is = refl
