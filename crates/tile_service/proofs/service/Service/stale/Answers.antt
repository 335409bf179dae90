use Rattle.tile_service.proofs.service.Service.stale.Goals as goal

pub returns : goal.returns
returns g c = rw (← c.self.view_is) c.stale.ensures
