use Rattle.std.proofs.Common.{arith, ◌<◌}
use Rattle.published_tiles.proofs.PublishedLaws.{contents_of_map, tile_told, reading_stays, reading_stays_up_to}
use Rattle.published_tiles.proofs.published_tiles.PublishedTiles.tile.Goals as goal

pub returns-clause-tile : goal.returns-clause-tile
returns-clause-tile g c = rw (← c.self.view_is) (λ m metadata bytes honest are map published.
    let at = c.args.at in
    let some : 0 < c.args.archive.len = omega (arith, c.if-archive-eq0.false) in
    let archive = contents_of_map m metadata bytes c.args.archive.len are.length_is some map in
    tile_told m at.z at.x at.y (archive.0 c.id_of.result) c.read_tile.result
    (c.read_tile.ensures.content bytes archive.0 honest are published.opened published.reading archive.2)
    (archive.1.each at.z at.x at.y c.id_of.result c.id_of.ensures.id))

pub returns-clause-still : goal.returns-clause-still
returns-clause-still g c = rw (← c.self.view_is) (λ bytes honest are published. record {
  opened = c.read_tile.ensures.still bytes honest are published.opened;
  up_to = c.read_tile.ensures.up_to c.args.archive.generation published.up_to (omega arith);
  reading = reading_stays _ _ c.args.archive bytes c.read_tile.ensures.left published.reading;
  reading_up_to = reading_stays_up_to _ _ c.args.archive.generation c.read_tile.ensures.left published.reading_up_to;
})
