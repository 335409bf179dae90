use Rattle.std.proofs.Common.{ap}
use Rattle.feature_model.specs.Limits.{IsAllowedChange}
use Rattle.feature_model.specs.Spelled.{spelled_change}
use Rattle.feature_model.specs.Types.{IsChange}
use Rattle.feature_model.proofs.Mapped.{read_from_map}
use Rattle.edit_text.proofs.Texts.{IsPut-more, changes_all, types_all}
use Rattle.feature_store.specs.Prepared.{prepared_data}
use Rattle.feature_store.proofs.records.append_texts.Goals as goal

pub append_text-requires : goal.append_text-requires
append_text-requires c = read_from_map IsAllowedChange prepared_data c.args.changes.now c.loop-change.change-index c.change-item.result
    c.requires c.loop-change-test.true c.change-item.is

pub loop-change-preserved : goal.loop-change-preserved
loop-change-preserved c = IsPut-more spelled_change IsChange prepared_data c.args.changes.now c.loop-change.change-index c.change-item.result _ _ _ _
    c.loop-change-test.true c.loop-change.invariant (ap prepared_data c.change-item.is) c.in_ok-append_text.ensures.text c.in_ok-append_text.ensures.change

pub returns-clause-text : goal.returns-clause-text
returns-clause-text c = changes_all IsChange prepared_data c.args.changes.now c.loop-change.change-index _ _ c.loop-change-test.false c.loop-change.invariant

pub returns-clause-changes : goal.returns-clause-changes
returns-clause-changes c = types_all spelled_change IsChange prepared_data c.args.changes.now c.loop-change.change-index _ _ c.loop-change-test.false
    c.loop-change.invariant
