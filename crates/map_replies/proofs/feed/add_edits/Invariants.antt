use Rattle.std.proofs.Common.{take}
use Rattle.edit_journal.specs.Records.{records_of}
use Rattle.map_replies.proofs.FeedLemmas.{IsSoFar}
use Rattle.map_replies.proofs.feed.add_edits.Given as goal

abbrev pub invariant-loop-index : goal.invariant-loop-index
invariant-loop-index l = IsSoFar l.first (records_of (take l.index l.records)) l.fn.text.items l.text.items
