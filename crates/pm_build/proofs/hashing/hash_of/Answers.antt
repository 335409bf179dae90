use Rattle.pm_build.proofs.Words.{none_known}
use Rattle.pm_build.proofs.hashing.hash_of.Goals as goal

pub hash_with-requires : goal.hash_with-requires
hash_with-requires c = none_known c.args.bytes.now c.none.result c.none.ensures
