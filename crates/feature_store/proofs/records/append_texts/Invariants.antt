use Rattle.feature_model.specs.Spelled.{spelled_change}
use Rattle.feature_model.specs.Types.{IsChange}
use Rattle.edit_text.proofs.Texts.{IsPut}
use Rattle.feature_store.specs.Prepared.{prepared_data}
use Rattle.feature_store.proofs.records.append_texts.Given as goal

abbrev pub invariant-loop-change : goal.invariant-loop-change
invariant-loop-change l = IsPut spelled_change IsChange prepared_data l.changes l.change-index l.initial.out.items l.out.items
