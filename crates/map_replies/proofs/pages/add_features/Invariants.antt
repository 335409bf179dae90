use Rattle.std.proofs.Common.{◌≡◌, ◌++◌, List}
use Rattle.map_replies.specs.Pages.{Entry, all_listed}
use Rattle.map_replies.specs.declared.pages.TheConstants.{PAGE_BYTES}
use Rattle.map_replies.proofs.PageLemmas.{Completes}
use Rattle.map_replies.proofs.ListLemmas.{are_some}
use Rattle.map_replies.proofs.pages.add_features.Given as goal

abbrev pub invariant-loop-left : goal.invariant-loop-left
invariant-loop-left g l = (done : List Entry) × Completes l.fn.service.features PAGE_BYTES l.fn.id done l.left l.from
    × (l.text.items ≡ l.initial.text.items ++ all_listed done) × (l.more ≡ are_some done)

abbrev pub decreases-loop-left : goal.decreases-loop-left
decreases-loop-left g l = l.left
