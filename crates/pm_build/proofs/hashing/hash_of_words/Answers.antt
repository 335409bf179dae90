use Rattle.pm_build.proofs.Words.{words_next}
use Rattle.std.proofs.lemmas.Grind.{common_steps}
use Rattle.std.proofs.Common.{arith}
use Rattle.pm_build.proofs.hashing.hash_of_words.Goals as goal

pub loop-word-init : goal.loop-word-init
loop-word-init c = c.requires.known.hash_is

pub loop-word-preserved : goal.loop-word-preserved
loop-word-preserved c = grind (arith, common_steps, words_next)
