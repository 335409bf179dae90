use Rattle.std.proofs.Common.{rules, FitsSigned, w64}
use Rattle.std.proofs.lemmas.Int.{to_z-of_z}
use Rattle.geometry_commands.proofs.Stepwise.{moved_is}
use Rattle.geometry_commands.proofs.decoding.moved.Goals as goal

pub returns : goal.returns
returns c =
    let fx : FitsSigned w64 c.in_ok-x.x = search rules in
    let fy : FitsSigned w64 c.in_ok-y.y = search rules in
    let px : FitsSigned w64 c.args.from.x = search rules in
    let py : FitsSigned w64 c.args.from.y = search rules in
    simp to_z-of_z (moved_is c.args.from c.args.dx c.args.dy c.in_ok-x.x c.in_ok-y.y (simp to_z-of_z at c.in_ok-x.ensures)
    (simp to_z-of_z at c.in_ok-y.ensures))
