use Rattle.feature_model.specs.Data.{change_data}
use Rattle.feature_model.specs.Limits.{ChangeFits}
use Rattle.feature_model.proofs.Mapped.{read_from_map}
use Rattle.feature_model.proofs.lengths.changes_len.Goals as goal

pub change_text_len-len-requires : goal.change_text_len-len-requires
change_text_len-len-requires c =
    read_from_map ChangeFits change_data c.args.changes.now c.loop-change.change-index c.change-item.result c.requires.each
    c.loop-change-test.true c.change-item.is
