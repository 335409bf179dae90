use Rattle.std.proofs.Common.{arith}
use Rattle.number_map.proofs.Search.{found_there}
use Rattle.number_map.proofs.block.place_in_row.Goals as goal

pub returns-then-entries-at : goal.returns-then-entries-at
returns-then-entries-at g c =
    let entry = c.index-entries-at.result in
    found_there c.args.number c.args.entries.now _ entry c.requires (omega (arith, c.if-at-entries.true)) c.if-entries-at.true
