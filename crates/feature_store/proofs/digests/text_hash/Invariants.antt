use Rattle.std.proofs.Common.{◌≡◌, take, fold}
use Rattle.feature_store.specs.Digests.{fnv_round}
use Rattle.feature_store.specs.declared.digests.TheConstants.{FNV_BASIS}
use Rattle.feature_store.proofs.digests.text_hash.Given as goal

abbrev pub invariant-loop-byte : goal.invariant-loop-byte
invariant-loop-byte l = l.hash ≡ fold fnv_round FNV_BASIS (take l.byte-index l.text)
