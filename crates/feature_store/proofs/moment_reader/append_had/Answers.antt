use Rattle.std.proofs.Common.{◌++◌, sym, ap, ◌∙◌}
use Rattle.std.specs.Option.{option_copied}
use Rattle.feature_store.specs.Reading.{stored_in}
use Rattle.feature_store.specs.Store.{snapshot}
use Rattle.feature_store.proofs.Snapshots.{none_put, one_text}
use Rattle.feature_store.proofs.moment_reader.append_had.Goals as goal

pub returns-in_default-clause-text : goal.returns-in_default-clause-text
returns-in_default-clause-text c =
    none_put c.args.text.now.items ∙ ap (λ o. c.args.text.now.items ++ snapshot (stored_in (option_copied o))) (sym c.in_default.is)

pub returns-clause-text : goal.returns-clause-text
returns-clause-text c =
    c.in_ok-extend_from_slice.ensures.items
    ∙ ap (λ t. c.args.text.now.items ++ t) (c.text.ensures.text ∙ sym (one_text c.in-Some.stored.now))
    ∙ ap (λ o. c.args.text.now.items ++ snapshot (stored_in (option_copied o))) (sym c.in-Some.is)
