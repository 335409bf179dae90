use Rattle.std.proofs.Common.{◌≡◌}
use Rattle.pm_build.specs.Hashing.{words_hash}
use Rattle.pm_build.proofs.hashing.hash_of_words.Given as goal

abbrev pub invariant-loop-word : goal.invariant-loop-word
invariant-loop-word l = l.hash ≡ words_hash l.bytes l.word
