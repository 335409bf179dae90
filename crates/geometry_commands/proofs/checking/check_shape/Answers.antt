use Rattle.std.proofs.Common.{◌≡◌, Err}
use Rattle.geometry_commands.specs.Decoding.{shape_at}
use Rattle.geometry_commands.specs.Faulty.{ShapeHas}
use Rattle.geometry_commands.proofs.FaultyLaws.{shape_has}
use Rattle.geometry_commands.proofs.Past.{ok_on, err_on, shape_is}
use Rattle.geometry_commands.proofs.checking.check_shape.Goals as goal

pub returns-clause-found : goal.returns-clause-found
returns-clause-found c = ok_on c.check_kind.result (shape_is c.args.kind c.args.ints.now) c.check_kind.ensures.found

pub returns-clause-fault : goal.returns-clause-fault
returns-clause-fault c = err_on (λ d. shape_at c.args.kind c.args.ints.now ≡ Err d) (ShapeHas c.args.kind c.args.ints.now) c.check_kind.result
    (shape_has c.args.kind c.args.ints.now) c.check_kind.ensures.fault
