use Rattle.std.proofs.Common.{Some, None, refl, rules}
use Rattle.feature_model.specs.Data.{feature_data}
use Rattle.tile_service.specs.Machine.{got}
use Rattle.tile_service.proofs.service.Service.look.Goals as goal

pub returns-in-None : goal.returns-in-None
returns-in-None g c = (got None, refl, search rules)

pub returns-in-Ok : goal.returns-in-Ok
returns-in-Ok g c = (got (Some (feature_data c.in-Ok.copy)), refl, search rules)
