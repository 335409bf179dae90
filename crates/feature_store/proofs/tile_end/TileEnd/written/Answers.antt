use Rattle.std.proofs.Common.{◌≡◌, ◌<◌, length, arith}
use Rattle.std.proofs.lemmas.Bool.Decides.{nat_tests}
use Rattle.feature_store.proofs.Ends.{ended_none, ended_some}
use Rattle.feature_store.proofs.tile_end.TileEnd.written.Goals as goal

pub returns-then-is_empty : goal.returns-then-is_empty
returns-then-is_empty c = λ m z x y ends.
    let bytes = c.finish-bytes.result in
    let none : length bytes.items ≡ 0 = grind (arith, nat_tests, c.is_empty.ensures, c.if-is_empty.true, bytes.ok) in
    ended_none m z x y c.args.self ends c.requires bytes.items c.finish-bytes.ensures none

pub returns : goal.returns
returns c = λ m z x y ends.
    let bytes = c.finish-bytes.result in
    let some : 0 < length bytes.items = grind (arith, nat_tests, c.is_empty.ensures, c.if-is_empty.false, bytes.ok) in
    ended_some m z x y c.args.self ends c.requires bytes.items c.finish-bytes.ensures some
