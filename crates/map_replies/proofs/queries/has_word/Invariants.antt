use Rattle.std.proofs.Common.{length, ◌-◌}
use Rattle.map_replies.proofs.queries.has_word.Given as goal

abbrev pub decreases-parts : goal.decreases-parts
decreases-parts l = length l.query - l.start
