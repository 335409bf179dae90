use Rattle.std.proofs.Common.{◌≡◌, length}
use Rattle.http_requests.specs.Conditions.{lists_tag}
use Rattle.http_requests.proofs.conditions.lists_tag.Given as goal

abbrev pub invariant-loop-more : goal.invariant-loop-more
invariant-loop-more l = lists_tag l.weak l.tag l.rest ≡ lists_tag l.weak l.tag l.list

abbrev pub decreases-loop-more : goal.decreases-loop-more
decreases-loop-more l = length l.rest
