use Rattle.feature_store.proofs.DigestLemmas.{digest_with}
use Rattle.feature_store.proofs.digests.digest_with.Goals as goal

pub returns : goal.returns
returns c m id f is hashed up own found =
    digest_with m id f c.digest_without.result c.args.hash (c.digest_without.ensures m id is own found) hashed up
