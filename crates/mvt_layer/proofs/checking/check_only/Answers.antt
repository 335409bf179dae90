use Rattle.std.proofs.Common.{◌∷◌, []}
use Rattle.geometry_commands.proofs.Past.{is_ok}
use Rattle.mvt_layer.specs.Reading.{layers_in}
use Rattle.mvt_layer.proofs.Checked.{only_layer, only_fault}
use Rattle.mvt_layer.proofs.checking.check_only.Goals as goal

pub returns-in-Ok-clause-found : goal.returns-in-Ok-clause-found
returns-in-Ok-clause-found c =
    let l = c.in-Ok.ensures.found in
    is_ok (layers_in (c.args.part.now ∷ [])) (l.0 ∷ []) (only_layer c.args.part.now l.0 l.1)

pub returns-in-Err-clause-fault : goal.returns-in-Err-clause-fault
returns-in-Err-clause-fault c = λ other. only_fault c.args.part.now c.in-Err.fault (c.in-Err.ensures.fault other)
