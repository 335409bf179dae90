use Rattle.std.proofs.Common.{subst}
use Rattle.file_disk.specs.Views.{file_history}
use Rattle.tile_service.specs.Stored.{Keeps, first_state}
use Rattle.map_server.proofs.files.formatted_file.Goals as goal

pub returns-in-Ok-clause-holds : goal.returns-in-Ok-clause-holds
returns-in-Ok-clause-holds g c honest =
    let history = file_history g.S.Start.found c.settle.new.disk in
    subst (λ n. Keeps n n first_state history) c.new-disk.ensures.count (c.in-Ok.ensures.holds honest)
