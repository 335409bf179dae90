use Rattle.std.proofs.Common.{subst}
use Rattle.sector_disk.specs.Views.{memory_history}
use Rattle.tile_service.specs.Stored.{Keeps, first_state}
use Rattle.map_server.proofs.fresh.fresh_disk.Goals as goal

pub returns-in-Ok-format-clause-holds : goal.returns-in-Ok-format-clause-holds
returns-in-Ok-format-clause-holds c =
    subst (λ n. Keeps n n first_state (memory_history c.format.new.disk)) c.in-Ok.ensures.count (c.in-Ok-format.ensures.formatted tt)
