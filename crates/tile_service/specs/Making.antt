-- Which tiles are made anew.
use Rattle.std.specs.Prelude.{ℕ, Bool, ◌&&◌, not, nat_le}
use Rattle.std.specs.Option.{is_some}
use Rattle.tile_cache.specs.Kept.{kept_at, fresh}
use Rattle.tile_service.specs.Service.{ServiceView}

-- The tile isn't read from the archive or given from the cache. `newest` is the number of the newest edit that can have touched it.
abbrev pub is_made : {D : Type 0} → ServiceView D → (newest z x y : ℕ) → Bool
is_made service newest z x y =
    not (not service.broken && nat_le newest service.journal.edits) && not (is_some (fresh newest (not service.broken) (kept_at service.kept z x y)))
