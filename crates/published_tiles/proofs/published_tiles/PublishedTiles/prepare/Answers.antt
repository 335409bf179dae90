use Rattle.std.proofs.Common.{arith}
use Rattle.published_tiles.proofs.published_tiles.PublishedTiles.prepare.Goals as goal

pub returns-then-archive-gt0-clause-still : goal.returns-then-archive-gt0-clause-still
returns-then-archive-gt0-clause-still g c = rw (← c.self.view_is) (λ bytes honest are published. record {
  opened = c.read_tile_part.ensures.still bytes honest are published.opened;
  up_to = c.read_tile_part.ensures.up_to c.args.archive.generation published.up_to (omega arith);
  reading = c.read_tile_part.ensures.reading bytes honest are published.reading;
  reading_up_to = c.read_tile_part.ensures.reading_up_to c.args.archive.generation published.reading_up_to (omega arith);
})
