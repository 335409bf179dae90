use Rattle.std.proofs.Common.{length}
use Rattle.number_map.specs.declared.block.TheConstants.{CAPACITY}
use Rattle.number_map.proofs.Places.{ok_where_room}
use Rattle.number_map.proofs.block.Block.add.Goals as goal

pub returns : goal.returns
returns g c =
    ok_where_room c.insert-before.result CAPACITY (length c.args.self.now) c.insert-before.ensures.entries c.insert-before.ensures.full c.requires.room
