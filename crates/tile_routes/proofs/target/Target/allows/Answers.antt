use Rattle.std.proofs.Common.{◌∙◌, ap}
use Rattle.tile_routes.specs.Methods.{is_among}
use Rattle.tile_routes.proofs.Methods.{any-same}
use Rattle.tile_routes.proofs.target.Target.allows.Goals as goal

pub returns : goal.returns
returns c = c.contains.ensures.value ∙ any-same c.methods.result.now c.args.method ∙ ap (λ allowed. is_among allowed c.args.method) c.methods.ensures
