use Rattle.archive_commands.proofs.HeaderFaults.{reported_of_header}
use Rattle.archive_commands.proofs.showing.show.Goals as goal

pub returns-in-Err-clause-header : goal.returns-in-Err-clause-header
returns-in-Err-clause-header g c = reported_of_header c.args.archive.now c.in-Err.fault c.in-Err.ensures.short c.in-Err.ensures.magic c.in-Err.ensures.version
