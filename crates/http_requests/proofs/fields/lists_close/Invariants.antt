use Rattle.std.proofs.Common.{◌≡◌, length}
use Rattle.http_requests.specs.Fields.{lists_close}
use Rattle.http_requests.proofs.fields.lists_close.Given as goal

abbrev pub invariant-loop-more : goal.invariant-loop-more
invariant-loop-more l = lists_close l.rest ≡ lists_close l.value

abbrev pub decreases-loop-more : goal.decreases-loop-more
decreases-loop-more l = length l.rest
