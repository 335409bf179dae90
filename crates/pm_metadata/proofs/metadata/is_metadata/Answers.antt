use Rattle.pm_metadata.proofs.MetadataLaws.{some_read}
use Rattle.pm_metadata.proofs.metadata.is_metadata.Goals as goal

pub returns-in-Ok-clause-some : goal.returns-in-Ok-clause-some
returns-in-Ok-clause-some c _ = some_read c.args.bytes.now _ c.in-Ok.ensures.ok.1
