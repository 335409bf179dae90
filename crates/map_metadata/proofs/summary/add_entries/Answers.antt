use Rattle.edit_text.specs.Views.{feature_view}
use Rattle.map_metadata.proofs.Added.{entries_more}
use Rattle.map_metadata.proofs.summary.add_entries.Goals as goal

pub loop-entry-preserved : goal.loop-entry-preserved
loop-entry-preserved c =
    entries_more c.args.layers.now c.loop-entry.layers c.add_feature.new.layers c.args.entries.now c.loop-entry.entry-index c.entry-item.result
    (feature_view c.view.result) c.loop-entry-test.true c.entry-item.is c.view.ensures c.loop-entry.invariant
    (record { zooms = c.in_ok-add_feature.ensures.zooms; kinds = c.in_ok-add_feature.ensures.kinds })
