use Rattle.std.specs.Prelude.{nat_lt}
use Rattle.std.proofs.Common.{◌+◌, refl}
use Rattle.map_replies.proofs.FeedLemmas.{so_far_more, no_edits}
use Rattle.map_replies.proofs.feed.add_edits.Goals as goal

pub returns-in-Err-clause-fault : goal.returns-in-Err-clause-fault
returns-in-Err-clause-fault c = no_edits c.args.records.now c.loop-index.index c.index-records-index.result c.in-Err.fault c.loop-index-test.true
    c.index-records-index.is c.in-Err.ensures.fault

pub loop-index-preserved : goal.loop-index-preserved
loop-index-preserved c = so_far_more c.args.first c.args.records.now c.loop-index.index c.index-records-index.result (c.args.first + c.loop-index.index)
    (nat_lt 0 c.loop-index.index) c.args.text.now.items c.loop-index.text.items c.add_edit.new.text.items c.loop-index-test.true
    c.index-records-index.is refl refl
    c.loop-index.invariant c.in-Ok.ensures.added
