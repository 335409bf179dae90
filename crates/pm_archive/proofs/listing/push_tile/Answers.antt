use Rattle.std.proofs.Common.{rules}
use Rattle.pm_archive.specs.Reading.{tile_at}
use Rattle.pm_archive.proofs.listing.push_tile.Goals as goal

pub returns-then-not-lies_in-clause-tile : goal.returns-then-not-lies_in-clause-tile
unfolding tile_at
returns-then-not-lies_in-clause-tile c = search rules

pub returns-in-Ok-clause-tile : goal.returns-in-Ok-clause-tile
unfolding tile_at
returns-in-Ok-clause-tile c = search rules
